-- The versions that document 01 wants tried, and that none of them meets the contract: each is wrong on a case of C1 to C4, in buffers of zeros.
use Rattle.std.specs.Prelude.{◌≡◌, ℕ, ◌+◌, ◌-◌, ◌<◌, List, [], ◌∷◌, ◌++◌, length, take, replicate}
use Rattle.std.proofs.Math.Option.{Option, none}
use Rattle.format.specs.Bytes.{Answer, refused, given, of_given, over}
use Rattle.format.specs.Table.{pptt, srat, front}
use Rattle.format.specs.Row.{Row}
use Rattle.format.specs.Kind.{Processor}
use Rattle.format.specs.Node.{Node, sizes}
use Rattle.format.specs.Recipe.{Meaning, meaning}
use Rattle.format.specs.Build.{build, table, table_from, length_of, built}
use Rattle.format.specs.Normal.{call}
use Rattle.format.specs.Read.{Reading, reading, read}
use Rattle.format.specs.Out.{every, read_out, out_written}
use Rattle.laws.specs.Cases.{head, with_resources}

-- ---- versions of build and of reading out

-- what is lent and a buffer, to an answer and the buffer afterwards
abbrev pub Version : Type 0
Version = List ℕ → List ℕ → Answer ℕ × List ℕ

-- it meets the contract of build on a recipe and a buffer
abbrev pub Builds : Version → List ℕ → List ℕ → Type 0
Builds v r buffer = ((v r buffer).0 ≡ build r (length buffer)) × ((v r buffer).1 ≡ built r buffer)

-- it meets the contract of reading out on a table and a buffer
abbrev pub ReadsOut : Version → List ℕ → List ℕ → Type 0
ReadsOut v b buffer = ((v b buffer).0 ≡ read_out b (length buffer)) × ((v b buffer).1 ≡ out_written b buffer)

abbrev pub Refusal : {A : Type 0} → Answer A → Type 0
Refusal (refused n p) = Unit
Refusal (given a) = ⊥

-- it refuses always
abbrev pub Refusing : Version → Type 0
Refusing v = (xs buffer : List ℕ) → Refusal (v xs buffer).0

-- whenever it gives a length, it has written the same bytes
abbrev pub Constant : List ℕ → Version → Type 0
Constant bs v = (xs buffer : List ℕ) (n : ℕ) → (v xs buffer).0 ≡ given n → (v xs buffer).1 ≡ over buffer 0 bs

-- it writes nothing
abbrev pub Idle : Version → Type 0
Idle v = (xs buffer : List ℕ) → (v xs buffer).1 ≡ buffer

-- the first of the nodes, which are listed newest first
abbrev pub first_node : List Node → List Node
first_node [] = []
first_node (n ∷ []) = n ∷ []
first_node (n ∷ m ∷ ns) = first_node (m ∷ ns)

-- where the first record ends
abbrev pub first_end : Meaning → ℕ
first_end m = front m.head.table + sizes (first_node m.nodes)

-- the table of a recipe with zeros behind its first record
abbrev pub first_alone_bytes : List ℕ → List ℕ
first_alone_bytes r = of_given (λ m. take (first_end m) (table_from m) ++ replicate (length_of m - first_end m) 0) (meaning r)

-- the first record is right, and the later ones are zero
abbrev pub FirstAlone : Version → Type 0
FirstAlone v = (r buffer : List ℕ) (n : ℕ) → (v r buffer).0 ≡ given n → (v r buffer).1 ≡ over buffer 0 (first_alone_bytes r)

-- ---- versions of reading

-- a table, a mask and a record number, to an answer
abbrev pub Reader : Type 0
Reader = List ℕ → ℕ → ℕ → Answer Reading

-- it meets the contract of read on a table, knowing all rows and asked for the first record
abbrev pub Reads : Reader → List ℕ → Type 0
Reads v b = v b every 0 ≡ read b every 0

abbrev pub count_in : Reading → ℕ
count_in (reading count type place length row fields) = count

abbrev pub row_in : Reading → Option Row
row_in (reading count type place length row fields) = row

-- it refuses always
abbrev pub NeverReads : Reader → Type 0
NeverReads v = (b : List ℕ) (mask n : ℕ) → Refusal (v b mask n)

-- it gives every table the same number of records
abbrev pub CountsAlike : ℕ → Reader → Type 0
CountsAlike c v = (b : List ℕ) (mask n : ℕ) (x : Reading) → v b mask n ≡ given x → count_in x ≡ c

-- it gives k records more than there are
abbrev pub CountsOn : ℕ → Reader → Type 0
CountsOn k v = (b : List ℕ) (mask n : ℕ) (x y : Reading) → v b mask n ≡ given x → read b mask n ≡ given y → count_in x ≡ count_in y + k

-- it calls every record unknown
abbrev pub AllUnknown : Reader → Type 0
AllUnknown v = (b : List ℕ) (mask n : ℕ) (x : Reading) → v b mask n ≡ given x → row_in x ≡ none

-- ---- none of them

-- C2: one processor, id 7
abbrev pub one_processor : List ℕ
one_processor = head pptt ++ call Processor (0 ∷ 0 ∷ 7 ∷ [])

pub record Excluded : Type 0 where
  pub refusing : (v : Version) → Refusing v → Builds v (head pptt) (replicate 36 0) → ⊥
  pub constant : (v : Version) (bs : List ℕ) → Constant bs v → Builds v (head pptt) (replicate 48 0) → Builds v (head srat) (replicate 48 0) → ⊥
  pub idle : (v : Version) → Idle v → Builds v (head pptt) (replicate 48 0) → ⊥
  pub first_alone : (v : Version) → FirstAlone v → Builds v (with_resources 1) (replicate 88 0) → ⊥
  pub out-refusing : (v : Version) → Refusing v → ReadsOut v (table (head pptt)) (replicate 28 0) → ⊥
  pub out-constant : (v : Version) (bs : List ℕ) → Constant bs v → ReadsOut v (table (head pptt)) (replicate 28 0) → ReadsOut v (table (head srat)) (replicate 28 0) → ⊥
  pub out-idle : (v : Version) → Idle v → ReadsOut v (table (head pptt)) (replicate 28 0) → ⊥
  pub never-reads : (v : Reader) → NeverReads v → Reads v (table one_processor) → ⊥
  pub counts-alike : (v : Reader) (c : ℕ) → CountsAlike c v → Reads v (table one_processor) → Reads v (table (with_resources 1)) → ⊥
  pub counts-on : (v : Reader) (k : ℕ) → 0 < k → CountsOn k v → Reads v (table one_processor) → ⊥
  pub all-unknown : (v : Reader) → AllUnknown v → Reads v (table (with_resources 1)) → ⊥
