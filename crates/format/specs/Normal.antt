-- The normal form of a recipe.
use Rattle.std.specs.Prelude.{ℕ, suc, ◌+◌, ◌/◌, ◌%◌, List, [], ◌∷◌, ◌++◌, take, drop, eqb}
use Rattle.format.specs.Bytes.{pick, of_given, part}
use Rattle.format.specs.Layout.{lay}
use Rattle.format.specs.Table.{code, Head}
use Rattle.format.specs.Form.{Form, processor, cache, memory, acpi, pci, rintc, old_rintc, domain, matrix, side, bridge, window, xor, Width, narrowest}
use Rattle.format.specs.Node.{Node}
use Rattle.format.specs.Kind.{Kind, Processor, Resource, Cache, Memory, Acpi, Pci, Rintc, Domain, Matrix, Initiator, Target, Cell, Side, Handle, Bridge, Window, WindowTarget, Xor, Map, kind_number, body}
use Rattle.format.specs.Recipe.{Meaning, meaning}

-- the bytes of one record
abbrev pub call : Kind → List ℕ → List ℕ
call k vs = kind_number k ∷ lay (body k) vs

-- a record for each number
unfoldable pub each : Kind → List ℕ → List ℕ
each k [] = []
each k (v ∷ vs) = call k (v ∷ []) ++ each k vs

-- a setting for each number that isn't the unset one, indices from j on
unfoldable pub each_set : (ℕ → ℕ → List ℕ) → ℕ → ℕ → List ℕ → List ℕ
each_set setting unset j [] = []
each_set setting unset j (v ∷ vs) = pick (eqb v unset) [] (setting j v) ++ each_set setting unset (suc j) vs

-- initiators, targets, then cells row by row; w: how wide indices are
unfoldable pub settings : Width → ℕ → ℕ → List ℕ → List ℕ
settings w i t vs =
    each_set (λ j v. call (Initiator w) (j ∷ v ∷ [])) 0 0 (part vs 0 i)
    ++ (each_set (λ j v. call (Target w) (j ∷ v ∷ [])) 0 0 (part vs i t)
    ++ each_set (λ e v. call (Cell w) (e / t ∷ e % t ∷ v ∷ [])) 65535 0 (drop (i + t) vs))

-- a matrix and its settings
unfoldable pub matrix_calls : Width → ℕ → ℕ → List ℕ → List ℕ
matrix_calls w i t vs = call (Matrix w) (take 4 vs ++ (i ∷ t ∷ [])) ++ settings w i t (drop 4 vs)

-- the records of one node; a retired one has none
unfoldable pub calls : Form → List ℕ → List ℕ
calls (processor n) vs = call Processor (take 3 vs) ++ each Resource (drop 3 vs)
calls cache vs = call Cache vs
calls memory vs = call Memory vs
calls acpi vs = call Acpi vs
calls pci vs = call Pci vs
calls rintc vs = call Rintc vs
calls old_rintc vs = []
calls domain vs = call Domain vs
calls (matrix i t) vs = matrix_calls (narrowest i t) i t vs
calls (side n) vs = call Side (take 3 vs) ++ each Handle (drop 3 vs)
calls (bridge n) vs = call Bridge vs
calls (window n) vs = call Window (take 7 vs) ++ each WindowTarget (drop 7 vs)
calls (xor n) vs = call Xor (take 1 vs) ++ each Map (drop 1 vs)

-- the same of the node as a whole
abbrev pub calls_of_node : Node → List ℕ
calls_of_node n = calls n.form n.values

-- the records of all nodes, the oldest first
unfoldable pub calls_of : List Node → List ℕ
calls_of [] = []
calls_of (n ∷ ns) = calls_of ns ++ calls_of_node n

-- the head's record
abbrev pub head_call : Head → List ℕ
head_call h = 1 ∷ code h.table ∷ h.identity

-- the recipe that says just this
unfoldable pub recipe_of : Meaning → List ℕ
recipe_of m = head_call m.head ++ calls_of m.nodes

-- the normal form of a recipe that builds
unfoldable pub normal : List ℕ → List ℕ
normal r = of_given recipe_of (meaning r)
