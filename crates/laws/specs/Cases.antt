-- Document 01's cases C1 to C12, as one statement, and cases of orders 1, 2, 4 and 6 of document 02. Identity fields and all fields not named are 0.
use Rattle.std.specs.Prelude.{ℕ, ◌+◌, ◌*◌, List, [], ◌∷◌, ◌++◌, ◌≡◌, length, drop, replicate}
use Rattle.std.proofs.Math.Option.{none, some}
use Rattle.format.specs.Bytes.{refused, given, at, le, part}
use Rattle.format.specs.Table.{Table, pptt, srat, hmat, cedt, code, sign}
use Rattle.format.specs.Form.{byte, pair}
use Rattle.format.specs.Row.{matrices, old_rintcs, rintcs}
use Rattle.format.specs.Kind.{Processor, Resource, Cache, Pci, Rintc, Matrix, Initiator, Target, Cell, Side, Bridge, Window, WindowTarget, Xor, Map}
use Rattle.format.specs.Build.{build, table}
use Rattle.format.specs.Normal.{call, each, normal}
use Rattle.format.specs.Read.{reading, read, read_part}
use Rattle.format.specs.Out.{every, read_out}

-- the head's record
abbrev pub head : Table → List ℕ
head t = 1 ∷ code t ∷ replicate 26 0

-- a cache without fields, a processor, n times resource 1
abbrev pub with_resources : ℕ → List ℕ
with_resources n = head pptt ++ (call Cache (replicate 8 0) ++ (call Processor (0 ∷ 0 ∷ 0 ∷ []) ++ each Resource (replicate n 1)))

-- an I by T matrix, and more records
abbrev pub with_matrix : ℕ → ℕ → List ℕ → List ℕ
with_matrix i t more = head hmat ++ (call (Matrix byte) (0 ∷ 0 ∷ 0 ∷ 0 ∷ i ∷ t ∷ []) ++ more)

-- the recipe builds a table of this length, with this checksum
abbrev pub Builds : List ℕ → ℕ → ℕ → Type 0
Builds r n check = (build r n ≡ given n) × (length (table r) ≡ n) × (at (table r) 9 ≡ check)

-- w bytes of the recipe's table at a place hold a number
abbrev pub Holds : List ℕ → ℕ → ℕ → ℕ → Type 0
Holds r p w v = part (table r) p w ≡ le w v

-- the recipe is refused, however large the buffer
abbrev pub Refuses : List ℕ → ℕ → ℕ → Type 0
Refuses r n p = (room : ℕ) → build r room ≡ refused n p

-- a PPTT of revision 4 with one cache record of 28 bytes; its sum is right
abbrev pub newer : List ℕ
newer = 80 ∷ 80 ∷ 84 ∷ 84 ∷ (le 4 64 ++ (4 ∷ 87 ∷ (replicate 26 0 ++ (1 ∷ 28 ∷ replicate 26 0))))

-- the cases as document 01 lists them
pub record CheckedByHand : Type 0 where
  pub c1 : Builds (head pptt) 36 145
  pub c2 : Builds (head pptt ++ call Processor (0 ∷ 0 ∷ 7 ∷ [])) 56 98
  pub c3 : Builds (with_resources 1) 88 3
  pub c3-resource : Holds (with_resources 1) 84 4 36
  pub c4 : Builds (head srat) 48 146
  pub c5 : Builds (head hmat) 40 173
  pub c6 : Holds (with_resources 58) 65 1 252
  pub c7 : Refuses (with_resources 59) 7 (28 + 22 + 13 + 5 * 58)
  pub c8 : Holds (with_matrix 2 3 []) 44 4 64
  pub c8-cell : Holds (with_matrix 2 3 (call (Cell byte) (1 ∷ 0 ∷ 4660 ∷ []))) (40 + 58) 2 4660
  pub c9 : Holds (with_matrix 255 255 []) 44 4 132122
  pub c10 : Refuses [] 1 0
  pub c11 : Refuses (head pptt ++ call Processor (0 ∷ 1 ∷ 0 ∷ [])) 6 28
  pub c12 : read newer every 0 ≡ given (reading 1 1 36 28 none [])
  pub c12-part : read_part newer every 0 ≡ drop 36 newer

-- a processor and a cache, then more records
abbrev pub with_nodes : List ℕ → List ℕ
with_nodes more = head pptt ++ (call Processor (0 ∷ 0 ∷ 0 ∷ []) ++ (call Cache (replicate 8 0) ++ more))

-- order 1: a bad field's own place, and the two ways in which a reference is not good
pub record ToldByHand : Type 0 where
  pub table : Refuses (1 ∷ 4 ∷ replicate 26 0) 5 1
  pub size : Refuses (head pptt ++ call Cache (0 ∷ 0 ∷ 1 ∷ replicate 5 0)) 5 34  -- although its flag is off: not the flags
  pub attributes : Refuses (head pptt ++ call Cache (255 ∷ 0 ∷ 0 ∷ 0 ∷ 0 ∷ 12 ∷ 0 ∷ 0 ∷ [])) 5 43
  pub first : Refuses (head srat ++ call Pci (0 ∷ 0 ∷ 0 ∷ 0 ∷ 8 ∷ 4 ∷ [])) 5 37  -- the function, not the flags behind it
  pub transfer : Refuses (head hmat ++ call (Matrix byte) (0 ∷ 0 ∷ 12 ∷ 0 ∷ 1 ∷ 1 ∷ [])) 5 31
  pub initiator : Refuses (with_matrix 2 3 (call (Initiator byte) (2 ∷ 0 ∷ []))) 5 43
  pub column : Refuses (with_matrix 2 3 (call (Cell byte) (1 ∷ 3 ∷ 0 ∷ []))) 5 44
  pub side : Refuses (head hmat ++ call Side (0 ∷ 0 ∷ 768 ∷ [])) 5 41
  pub none : Refuses (with_nodes (call Processor (0 ∷ 1 ∷ 0 ∷ []) ++ call Resource (0 ∷ []))) 6 76
  pub own : Refuses (with_nodes (call Cache (0 ∷ 3 ∷ replicate 6 0))) 6 63
  pub its : Refuses (with_nodes (call Processor (0 ∷ 1 ∷ 0 ∷ []) ++ call Resource (3 ∷ []))) 6 76  -- a resource's own ordinal is its processor's
  pub parent : Refuses (with_nodes (call Processor (0 ∷ 2 ∷ 0 ∷ []))) 10 63
  pub level : Refuses (with_nodes (call Cache (0 ∷ 1 ∷ replicate 6 0))) 10 63
  pub resource : Refuses (with_nodes (call Processor (0 ∷ 1 ∷ 0 ∷ []) ++ call Resource (1 ∷ []))) 10 76

-- a host bridge of a version
abbrev pub with_bridge : ℕ → List ℕ
with_bridge version = head cedt ++ call Bridge (7 ∷ version ∷ 0 ∷ [])

-- a window by its ways' code, and more records
abbrev pub with_window : ℕ → List ℕ → List ℕ
with_window ways more = head cedt ++ (call Window (0 ∷ 0 ∷ ways ∷ 0 ∷ 0 ∷ 0 ∷ 0 ∷ []) ++ more)

-- maths with n maps of 256
abbrev pub with_maps : ℕ → List ℕ
with_maps n = head cedt ++ (call Xor (6 ∷ []) ++ each Map (replicate n 256))

-- a CEDT with one record, and its checksum
abbrev pub holding : ℕ → List ℕ → List ℕ
holding check bs = sign cedt ++ (le 4 (36 + length bs) ++ (1 ∷ check ∷ (replicate 26 0 ++ bs)))

-- order 2: a case for each row and kind, and for each way in which a window is incomplete
pub record CedtByHand : Type 0 where
  pub empty : Builds (head cedt) 36 187
  pub bridge : Builds (with_bridge 0) 68 84
  pub registers : Holds (with_bridge 0) 60 8 8192
  pub second : Builds (with_bridge 1) 68 114
  pub more : Holds (with_bridge 1) 60 8 65536
  pub window : Builds (with_window 8 (each WindowTarget (1 ∷ 2 ∷ 3 ∷ []))) 84 76  -- code 8: 3 ways
  pub frame : Holds (with_window 8 (each WindowTarget (1 ∷ 2 ∷ 3 ∷ []))) 36 4 (1 + 65536 * 48)
  pub target : Holds (with_window 8 (each WindowTarget (1 ∷ 2 ∷ 3 ∷ []))) 80 4 3
  pub maths : Builds (with_maps 2) 60 127
  pub count : Holds (with_maps 2) 43 1 2
  pub most : Holds (with_maps 255) 38 2 2048
  pub map : Refuses (with_maps 256) 7 (28 + 2 + 9 * 255)
  pub ended : Refuses (with_window 0 []) 11 28
  pub fewer : Refuses (with_window 1 (each WindowTarget (6 ∷ []))) 11 28
  pub unknown : Refuses (with_window 0 (200 ∷ [])) 11 28  -- before its 2
  pub head : Refuses (with_window 0 (1 ∷ [])) 11 28
  pub cut : Refuses (with_window 0 (64 ∷ [])) 11 28  -- before its 3
  pub its : Refuses (with_window 0 (66 ∷ [])) 3 51
  pub many : Refuses (with_window 0 (each WindowTarget (6 ∷ 7 ∷ []))) 7 56
  pub stray : Refuses (with_bridge 0 ++ each WindowTarget (6 ∷ [])) 4 42
  pub apart : Refuses (with_bridge 0 ++ each Map (6 ∷ [])) 4 42
  pub version : Refuses (with_bridge 2) 5 33
  pub ways : Refuses (with_window 5 []) 5 45  -- before its 11
  pub short : read (holding 114 (1 ∷ 0 ∷ 36 ∷ replicate 33 0)) every 0 ≡ given (reading 1 1 36 36 none [])
  pub coded : read (holding 101 (1 ∷ 0 ∷ 40 ∷ (replicate 21 0 ++ (5 ∷ replicate 15 0)))) every 0 ≡ refused 26 36
  pub settled : read (holding 90 (0 ∷ 0 ∷ 32 ∷ 0 ∷ (replicate 4 0 ++ (1 ∷ (replicate 16 0 ++ (32 ∷ replicate 6 0)))))) every 0 ≡ refused 26 36
  pub reserved : read (holding 90 (0 ∷ 1 ∷ 32 ∷ (replicate 22 0 ++ (32 ∷ replicate 6 0)))) every 0 ≡ refused 26 36
  pub free : read (holding 175 (3 ∷ 1 ∷ 4 ∷ 0 ∷ [])) every 0 ≡ given (reading 1 3 36 4 none [])

-- a RINTC of uid 7, in a domain, with flags and clock domain 9
abbrev pub with_rintc : ℕ → List ℕ
with_rintc flags = head srat ++ call Rintc (3 ∷ 7 ∷ flags ∷ 9 ∷ [])

-- an SRAT of a revision with these records, and its checksum
abbrev pub srat_of : ℕ → ℕ → List ℕ → List ℕ
srat_of revision check bs = sign srat ++ (le 4 (48 + length bs) ++ (revision ∷ check ∷ (replicate 26 0 ++ (1 ∷ (replicate 11 0 ++ bs)))))

-- the record of 16 bytes: uid 5, flags 1, clock domain 9
abbrev pub sixteen : List ℕ
sixteen = 7 ∷ 16 ∷ 0 ∷ 0 ∷ 5 ∷ 0 ∷ 0 ∷ 0 ∷ 1 ∷ 0 ∷ 0 ∷ 0 ∷ 9 ∷ 0 ∷ 0 ∷ 0 ∷ []

-- that of 20, with domain 3 before them
abbrev pub twenty : List ℕ
twenty = 7 ∷ 20 ∷ 0 ∷ 0 ∷ 3 ∷ 0 ∷ 0 ∷ 0 ∷ 5 ∷ 0 ∷ 0 ∷ 0 ∷ 1 ∷ 0 ∷ 0 ∷ 0 ∷ 9 ∷ 0 ∷ 0 ∷ 0 ∷ []

-- the table is not read out, however large the buffer
abbrev pub NotOut : List ℕ → ℕ → ℕ → Type 0
NotOut b n p = (room : ℕ) → read_out b room ≡ refused n p

-- order 4: the kind, the row, what is retired of both, and in which order that is said
pub record RintcByHand : Type 0 where
  pub built : Builds (with_rintc 1) 68 79
  pub frame : Holds (with_rintc 1) 48 4 (7 + 256 * 20)
  pub domain : Holds (with_rintc 1) 52 4 3
  pub uid : Holds (with_rintc 1) 56 4 7
  pub flags : Holds (with_rintc 1) 60 4 1
  pub clock : Holds (with_rintc 1) 64 4 9
  pub range : Refuses (with_rintc 2) 5 37
  pub cut : Refuses (head srat ++ (36 ∷ [])) 3 28
  pub retired : Refuses (head srat ++ (35 ∷ replicate 9 0)) 12 28
  pub first : Refuses (head srat ++ (35 ∷ [])) 12 28  -- before its 3
  pub behind : Refuses (with_rintc 1 ++ (35 ∷ [])) 12 42
  pub elsewhere : Refuses (head pptt ++ (35 ∷ [])) 2 28
  pub unknown : Refuses (head srat ++ (37 ∷ [])) 2 28
  pub short : read (srat_of 3 92 sixteen) every 0 ≡ given (reading 1 7 48 16 (some old_rintcs) (5 ∷ 1 ∷ 9 ∷ []))
  pub long : read (srat_of 3 81 twenty) every 0 ≡ given (reading 1 7 48 20 (some rintcs) (3 ∷ 5 ∷ 1 ∷ 9 ∷ []))
  pub dim : read (srat_of 3 81 twenty) 16 0 ≡ given (reading 1 7 48 20 none [])  -- row 4 alone is known
  pub between : read (srat_of 3 103 (7 ∷ 18 ∷ replicate 16 0)) every 0 ≡ given (reading 1 7 48 18 none [])
  pub flagged : read (srat_of 3 80 (7 ∷ 20 ∷ 0 ∷ 0 ∷ 3 ∷ 0 ∷ 0 ∷ 0 ∷ 5 ∷ 0 ∷ 0 ∷ 0 ∷ 2 ∷ 0 ∷ 0 ∷ 0 ∷ 9 ∷ 0 ∷ 0 ∷ 0 ∷ [])) every 0 ≡ refused 26 48
  pub reserved : read (srat_of 3 98 (7 ∷ 20 ∷ 1 ∷ replicate 17 0)) every 0 ≡ refused 26 48
  pub out : NotOut (srat_of 3 92 sixteen) 32 48
  pub place : NotOut (srat_of 3 27 (twenty ++ sixteen)) 32 68
  pub later : NotOut (srat_of 3 79 (sixteen ++ (9 ∷ 2 ∷ []))) 29 64  -- before its 32
  pub older : NotOut (srat_of 2 93 sixteen) 30 8

-- an I by T matrix with counts of two bytes, and more records
abbrev pub with_wide : ℕ → ℕ → List ℕ → List ℕ
with_wide i t more = head hmat ++ (call (Matrix pair) (0 ∷ 0 ∷ 0 ∷ 0 ∷ i ∷ t ∷ []) ++ more)

-- an HMAT whose one record is the first 32 bytes of an I by T matrix, and its checksum
abbrev pub stub : ℕ → ℕ → ℕ → List ℕ
stub check i t =
    sign hmat ++ (le 4 72 ++ (1 ∷ check ∷ (replicate 30 0 ++ (le 4 1 ++ (le 4 32 ++ (replicate 4 0 ++ (le 4 i ++ (le 4 t ++ replicate 12 0))))))))

-- order 6: the kinds, the row, their edges, and where settings of each width may stand
pub record WideByHand : Type 0 where
  pub racks : Holds (with_wide 600 600 []) 44 4 724832
  pub initiator : Holds (with_wide 300 2 (call (Initiator pair) (256 ∷ 7 ∷ []))) (40 + 32 + 4 * 256) 4 7
  pub target : Holds (with_wide 2 300 (call (Target pair) (299 ∷ 7 ∷ []))) (40 + 32 + 4 * 301) 4 7
  pub cell : Holds (with_wide 300 2 (call (Cell pair) (299 ∷ 1 ∷ 4660 ∷ []))) (40 + 32 + 4 * 302 + 2 * 599) 2 4660
  pub narrow : Refuses (with_wide 1 1 (call (Initiator byte) (0 ∷ 0 ∷ []))) 4 44
  pub wide : Refuses (with_matrix 1 1 (call (Initiator pair) (0 ∷ 0 ∷ []))) 4 42
  pub between : Refuses (with_wide 1 1 (call (Cell pair) (0 ∷ 0 ∷ 7 ∷ []) ++ call (Cell byte) (0 ∷ 0 ∷ 7 ∷ []))) 4 51
  pub small : normal (with_wide 1 1 (call (Cell pair) (0 ∷ 0 ∷ 7 ∷ []))) ≡ with_matrix 1 1 (call (Cell byte) (0 ∷ 0 ∷ 7 ∷ []))
  pub large : normal (with_wide 256 0 (call (Initiator pair) (255 ∷ 7 ∷ []))) ≡ with_wide 256 0 (call (Initiator pair) (255 ∷ 7 ∷ []))
  pub above : Refuses (with_wide 4097 0 []) 5 40
  pub second : Refuses (with_wide 4096 4097 []) 5 42
  pub outside : Refuses (with_wide 256 1 (call (Cell pair) (256 ∷ 0 ∷ 0 ∷ []))) 5 45
  pub column : Refuses (with_wide 256 1 (call (Cell pair) (255 ∷ 1 ∷ 0 ∷ []))) 5 47
  pub unknown : Refuses (head hmat ++ (59 ∷ [])) 2 28
  pub most : build (with_wide 4096 4096 []) 0 ≡ refused 9 33587272
  pub long : Refuses (with_wide 4096 4096 (call (Matrix pair) (0 ∷ 0 ∷ 0 ∷ 0 ∷ 4096 ∷ 4096 ∷ []))) 8 44
  pub short : read (stub 107 256 0) every 0 ≡ refused 26 40  -- the row matches from 32 bytes on
  pub past : read (stub 91 4097 0) every 0 ≡ given (reading 1 1 40 32 none [])
  pub sixth : read (stub 109 255 0) 64 0 ≡ refused 26 40
  pub bit : read (table (with_wide 256 0 [])) 4096 0 ≡ given (reading 1 1 40 1056 (some (matrices pair)) (0 ∷ 0 ∷ 0 ∷ 256 ∷ 0 ∷ 0 ∷ []))
  pub dim : read (table (with_wide 256 0 [])) 64 0 ≡ given (reading 1 1 40 1056 none [])  -- row 6 alone is known
  pub old : read (table (with_wide 255 0 [])) 64 0 ≡ given (reading 1 1 40 1052 (some (matrices byte)) (0 ∷ 0 ∷ 0 ∷ 255 ∷ 0 ∷ 0 ∷ []))
