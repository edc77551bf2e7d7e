-- Only a PPTT has references, and a record leaves the nodes before the newest, or those before the newest before: kind by kind, and so the marks stay right.
use mathlib.Core.Path.{◌≡◌, refl}
use Prim.Native.Nat.{ℕ}
use mathlib.Core.List.{List, []}
use mathlib.Core.Bool.{Bool, true, false}
use lib.ListN.{drop}
use lib.Dec.{eqb}
use Rattle.format.specs.Bytes.{pick}
use Rattle.format.specs.Table.{pptt}
use Rattle.format.specs.Node.{Node}
use Rattle.format.specs.Kind.{Kind, Processor, Resource, Cache, Memory, Acpi, Pci, Rintc, Domain, Matrix, Initiator, Target, Cell, Side, Handle, Bridge, Window, WindowTarget, Xor, Map, kind_number}
use Rattle.format.specs.Recipe.{joined, setting, changes, stray, step, added}
use Rattle.laws.proofs.Finds.{never}
use Rattle.laws.proofs.Grows.{View, sees_processor, sees_matrix, sees_side, sees_window, sees_xor, sees_other, view, kind_home}
use Rattle.recipe.specs.Machine.{refers}

-- only a PPTT's records have a reference
pub names-pptt : (k : Kind) (bs : List ℕ) → (refers k bs ≡ 0 → ⊥) → kind_home k ≡ pptt
names-pptt Processor bs z = refl
names-pptt Resource bs z = refl
names-pptt Cache bs z = refl
names-pptt Memory bs z = absurd (z refl)
names-pptt Acpi bs z = absurd (z refl)
names-pptt Pci bs z = absurd (z refl)
names-pptt Rintc bs z = absurd (z refl)
names-pptt Domain bs z = absurd (z refl)
names-pptt (Matrix w) bs z = absurd (z refl)
names-pptt (Initiator w) bs z = absurd (z refl)
names-pptt (Target w) bs z = absurd (z refl)
names-pptt (Cell w) bs z = absurd (z refl)
names-pptt Side bs z = absurd (z refl)
names-pptt Handle bs z = absurd (z refl)
names-pptt Bridge bs z = absurd (z refl)
names-pptt Window bs z = absurd (z refl)
names-pptt WindowTarget bs z = absurd (z refl)
names-pptt Xor bs z = absurd (z refl)
names-pptt Map bs z = absurd (z refl)

-- ---- the nodes before the newest are those before, or those before the newest before

module _ (P : List Node → Type 0) where
  -- a record that joins the newest node's list, or has no node to join
  taken : (k j : Kind) (full : Bool) (n : Node) (ns : List Node) → (pick (eqb (kind_number k) (kind_number j)) (changes [] full n ns) stray).placed ≡ true → P ns
      → P (drop 1 (pick (eqb (kind_number k) (kind_number j)) (changes [] full n ns) stray).nodes)
  taken k j full n ns p h = by (eqb (kind_number k) (kind_number j)) p
    where
      by : (x : Bool) → (pick x (changes [] full n ns) stray).placed ≡ true → P (drop 1 (pick x (changes [] full n ns) stray).nodes)
      by true p = h
      by false p = never p

  joined-older : (k : Kind) (vs : List ℕ) {ns : List Node} {x : _} → View ns x → (joined k vs x).placed ≡ true → P (drop 1 ns) → P (drop 1 (joined k vs x).nodes)
  unfolding joined
  joined-older k vs sees_processor p h = taken k Resource _ _ _ p h
  joined-older k vs sees_matrix p h = never p
  joined-older k vs sees_side p h = taken k Handle _ _ _ p h
  joined-older k vs sees_window p h = taken k WindowTarget _ _ _ p h
  joined-older k vs sees_xor p h = taken k Map _ _ _ p h
  joined-older k vs sees_other p h = never p

  setting-older : (tests : ℕ → ℕ → List Bool) (field : ℕ → ℕ → ℕ) (v : ℕ) {ns : List Node} {x : _} → View ns x → (setting tests field v x).placed ≡ true → P (drop 1 ns) → P (drop 1 (setting tests field v x).nodes)
  unfolding setting
  setting-older tests field v sees_processor p h = never p
  setting-older tests field v sees_matrix p h = h
  setting-older tests field v sees_side p h = never p
  setting-older tests field v sees_window p h = never p
  setting-older tests field v sees_xor p h = never p
  setting-older tests field v sees_other p h = never p

  pub older-added : (k : Kind) (vs : List ℕ) (ns : List Node) → (step k vs ns).placed ≡ true → P ns → P (drop 1 ns) → P (drop 1 (added k vs ns))
  unfolding step
  older-added Processor vs ns p h j = h
  older-added Resource vs ns p h j = joined-older Resource vs (view ns) p j
  older-added Cache vs ns p h j = h
  older-added Memory vs ns p h j = h
  older-added Acpi vs ns p h j = h
  older-added Pci vs ns p h j = h
  older-added Rintc vs ns p h j = h
  older-added Domain vs ns p h j = h
  older-added (Matrix w) vs ns p h j = h
  older-added (Initiator w) vs ns p h j = setting-older _ _ _ (view ns) p j
  older-added (Target w) vs ns p h j = setting-older _ _ _ (view ns) p j
  older-added (Cell w) vs ns p h j = setting-older _ _ _ (view ns) p j
  older-added Side vs ns p h j = h
  older-added Handle vs ns p h j = joined-older Handle vs (view ns) p j
  older-added Bridge vs ns p h j = h
  older-added Window vs ns p h j = h
  older-added WindowTarget vs ns p h j = joined-older WindowTarget vs (view ns) p j
  older-added Xor vs ns p h j = h
  older-added Map vs ns p h j = joined-older Map vs (view ns) p j
