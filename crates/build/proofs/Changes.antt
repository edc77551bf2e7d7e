-- What a change is of a kind that is known: how many bytes it changes, and how many come.
use Rattle.std.proofs.Common.{◌≡◌, refl, ℕ, ◌⊎◌, inl, inr}
use Rattle.recipe.specs.declared.Kind.{Kind}
use Rattle.recipe.specs.declared.Kind.TheVariants.{Processor, Resource, Cache, Memory, Acpi, Pci, Rintc, Domain, Matrix, Initiator, Target, Cell, Side, Handle, Bridge, Window, WindowTarget, Xor, Map, WideMatrix, WideInitiator, WideTarget, WideCell}
use Rattle.recipe.specs.Kinds.{meant_kind}
use Rattle.writes.specs.declared.Change.{Change}
use Rattle.writes.specs.Writes.{change_of}
use Rattle.build.specs.Write.{Changes}

abbrev pub changed : Kind → ℕ
changed Processor = 0
changed Resource = 20
changed Cache = 0
changed Memory = 0
changed Acpi = 0
changed Pci = 0
changed Rintc = 0
changed Domain = 0
changed Matrix = 0
changed Initiator = 4
changed Target = 4
changed Cell = 2
changed Side = 0
changed Handle = 32
changed Bridge = 0
changed Window = 0
changed WindowTarget = 4
changed Xor = 0
changed Map = 8
changed WideMatrix = 0
changed WideInitiator = 4
changed WideTarget = 4
changed WideCell = 2

-- of a matrix and of a window as many as its record says, m
abbrev pub adds : Kind → ℕ → ℕ
adds Processor m = 20
adds Resource m = 4
adds Cache m = 28
adds Memory m = 40
adds Acpi m = 32
adds Pci m = 32
adds Rintc m = 20
adds Domain m = 40
adds Matrix m = m
adds Initiator m = 0
adds Target m = 0
adds Cell m = 0
adds Side m = 32
adds Handle m = 2
adds Bridge m = 32
adds Window m = m
adds WindowTarget m = 0
adds Xor m = 8
adds Map m = 8
adds WideMatrix m = m
adds WideInitiator m = 0
adds WideTarget m = 0
adds WideCell m = 0

pub spans : (k : Kind) (c : Change) → Changes (meant_kind k) c → (c.len ≡ changed k) × (c.more ≡ adds k c.more)
unfolding change_of
spans Processor c h = rw h.2 (refl, refl)
spans Resource c h = rw h.2 (refl, refl)
spans Cache c h = rw h.2 (refl, refl)
spans Memory c h = rw h.2 (refl, refl)
spans Acpi c h = rw h.2 (refl, refl)
spans Pci c h = rw h.2 (refl, refl)
spans Rintc c h = rw h.2 (refl, refl)
spans Domain c h = rw h.2 (refl, refl)
spans Matrix c h = rw h.2 (refl, refl)
spans Initiator c h = rw h.2 (refl, refl)
spans Target c h = rw h.2 (refl, refl)
spans Cell c h = rw h.2 (refl, refl)
spans Side c h = rw h.2 (refl, refl)
spans Handle c h = rw h.2 (refl, refl)
spans Bridge c h = rw h.2 (refl, refl)
spans Window c h = rw h.2 (refl, refl)
spans WindowTarget c h = rw h.2 (refl, refl)
spans Xor c h = rw h.2 (refl, refl)
spans Map c h = rw h.2 (refl, refl)
spans WideMatrix c h = rw h.2 (refl, refl)
spans WideInitiator c h = rw h.2 (refl, refl)
spans WideTarget c h = rw h.2 (refl, refl)
spans WideCell c h = rw h.2 (refl, refl)

-- kinds that share an arm
pub is-value : {k : Kind} (m : ℕ) → (k ≡ Initiator) ⊎ ((k ≡ Target) ⊎ ((k ≡ WideInitiator) ⊎ (k ≡ WideTarget))) → (changed k ≡ 4) × (adds k m ≡ 0)
is-value m (inl e) = rw e (refl, refl)
is-value m (inr (inl e)) = rw e (refl, refl)
is-value m (inr (inr (inl e))) = rw e (refl, refl)
is-value m (inr (inr (inr e))) = rw e (refl, refl)

pub is-cell : {k : Kind} (m : ℕ) → (k ≡ Cell) ⊎ (k ≡ WideCell) → (changed k ≡ 2) × (adds k m ≡ 0)
is-cell m (inl e) = rw e (refl, refl)
is-cell m (inr e) = rw e (refl, refl)

pub is-generic : {k : Kind} (m : ℕ) → (k ≡ Acpi) ⊎ (k ≡ Pci) → (changed k ≡ 0) × (adds k m ≡ 32)
is-generic m (inl e) = rw e (refl, refl)
is-generic m (inr e) = rw e (refl, refl)

pub is-sized : {k : Kind} (m : ℕ) → (k ≡ Matrix) ⊎ ((k ≡ WideMatrix) ⊎ (k ≡ Window)) → (changed k ≡ 0) × (adds k m ≡ m)
is-sized m (inl e) = rw e (refl, refl)
is-sized m (inr (inl e)) = rw e (refl, refl)
is-sized m (inr (inr e)) = rw e (refl, refl)

-- the other kinds change nothing
pub unchanged : (k : Kind) → (k ≡ Resource → ⊥) → (k ≡ Initiator → ⊥) → (k ≡ Target → ⊥) → (k ≡ Cell → ⊥) → (k ≡ Handle → ⊥) → (k ≡ WindowTarget → ⊥) → (k ≡ Map → ⊥) → (k ≡ WideInitiator → ⊥) → (k ≡ WideTarget → ⊥) → (k ≡ WideCell → ⊥) → changed k ≡ 0
unchanged Processor _ _ _ _ _ _ _ _ _ _ = refl
unchanged Resource n _ _ _ _ _ _ _ _ _ = absurd (n refl)
unchanged Cache _ _ _ _ _ _ _ _ _ _ = refl
unchanged Memory _ _ _ _ _ _ _ _ _ _ = refl
unchanged Acpi _ _ _ _ _ _ _ _ _ _ = refl
unchanged Pci _ _ _ _ _ _ _ _ _ _ = refl
unchanged Rintc _ _ _ _ _ _ _ _ _ _ = refl
unchanged Domain _ _ _ _ _ _ _ _ _ _ = refl
unchanged Matrix _ _ _ _ _ _ _ _ _ _ = refl
unchanged Initiator _ n _ _ _ _ _ _ _ _ = absurd (n refl)
unchanged Target _ _ n _ _ _ _ _ _ _ = absurd (n refl)
unchanged Cell _ _ _ n _ _ _ _ _ _ = absurd (n refl)
unchanged Side _ _ _ _ _ _ _ _ _ _ = refl
unchanged Handle _ _ _ _ n _ _ _ _ _ = absurd (n refl)
unchanged Bridge _ _ _ _ _ _ _ _ _ _ = refl
unchanged Window _ _ _ _ _ _ _ _ _ _ = refl
unchanged WindowTarget _ _ _ _ _ n _ _ _ _ = absurd (n refl)
unchanged Xor _ _ _ _ _ _ _ _ _ _ = refl
unchanged Map _ _ _ _ _ _ n _ _ _ = absurd (n refl)
unchanged WideMatrix _ _ _ _ _ _ _ _ _ _ = refl
unchanged WideInitiator _ _ _ _ _ _ _ n _ _ = absurd (n refl)
unchanged WideTarget _ _ _ _ _ _ _ _ n _ = absurd (n refl)
unchanged WideCell _ _ _ _ _ _ _ _ _ n = absurd (n refl)
