-- What stands where in a built table, and what a reader of every row shows of it: the header from its bytes, each record from the nodes before and behind it.
use mathlib.Core.Path.{◌≡◌, refl, sym, ap, ◌∙◌}
use Prim.Native.Nat.{ℕ, zero, suc, ◌+◌, ◌-◌, ◌^◌, ◌≤◌, ◌<◌}
use mathlib.Core.List.{List, [], ◌∷◌, ◌++◌, append_assoc, append-nil}
use mathlib.Core.Option.{none, some}
use native.Mathlib.Omega.{arith}
use native.Mathlib.Nat.{zero-add, add-zero}
use lib.ListN.{length, take, drop, get_elem?}
use lib.Seq.{take_at, drop_at, drop-drop, take_all}
use Rattle.format.specs.Bytes.{Bytes, at, le, value, part, sum, given}
use Rattle.format.specs.Layout.{lay, lay_with}
use Rattle.format.specs.Table.{Table, pptt, srat, hmat, cedt, sign, revision, tail, told, front, limit, Head}
use Rattle.format.specs.Form.{size, layout}
use Rattle.format.specs.Node.{Node, bytes, sizes, starts, place_of}
use Rattle.format.specs.Recipe.{Meaning, meaning}
use Rattle.format.specs.Build.{records, header, check_of, summed, table_from, length_of, build, table}
use Rattle.format.specs.Read.{length_in, Seen, accept, list_in, part_of, read, read_part}
use Rattle.format.specs.Out.{every}
use Rattle.laws.specs.Demand1.{Says}
use Rattle.laws.specs.Demand2.{Lies}
use Rattle.laws.specs.Demand3.{answer_on, Shows, ShowsNormal}
use Rattle.laws.proofs.Bytes.{value-le}
use Rattle.laws.proofs.Nodes.{length-bytes}
use Rattle.laws.proofs.Links.{starts-rise}
use Rattle.laws.proofs.Good.{GoodNode, Good, seen_of, seen_all, walk-good, form-rec, fields-seen, row_fresh}
use Rattle.laws.proofs.Heads.{judged, walked-is, length-header, length-records}
use Rattle.laws.proofs.Builds.{Means, meaning-good}
use Rattle.laws.proofs.Trips.{normal-same}
use Rattle.laws.proofs.Promises.{length-table}
use Rattle.laws.proofs.Refusals.{meaning-given, exactly}

-- ---- the header

-- b begins with the header of a table, and rest follows
record Begins (t : Table) (len v : ℕ) (is rest b : List ℕ) : Type 0 where
  signature : take 4 b ≡ sign t
  long : length_in b ≡ len
  revised : at b 8 ≡ v
  identity : part b 10 26 ≡ is
  behind : drop 36 b ≡ rest

first-ten : (t : Table) (len v c : ℕ) (rest : List ℕ) → len < 256 ^ 4
    → let b : List ℕ = sign t ++ (le 4 len ++ (v ∷ c ∷ rest)) in (take 4 b ≡ sign t) × (length_in b ≡ len) × (at b 8 ≡ v) × (drop 10 b ≡ rest)
unfolding le value part
first-ten pptt len v c rest l = (refl, value-le 4 len l, refl, refl)
first-ten srat len v c rest l = (refl, value-le 4 len l, refl, refl)
first-ten hmat len v c rest l = (refl, value-le 4 len l, refl, refl)
first-ten cedt len v c rest l = (refl, value-le 4 len l, refl, refl)

begins : (t : Table) (len v c : ℕ) (is rest : List ℕ) → len < 256 ^ 4 → length is ≡ 26 → Begins t len v is rest (sign t ++ (le 4 len ++ (v ∷ c ∷ (is ++ rest))))
unfolding part
begins t len v c is rest l n =
    let (s, k, a, d) = first-ten t len v c (is ++ rest) l in
    let b = sign t ++ (le 4 len ++ (v ∷ c ∷ (is ++ rest))) in
    record { signature = s; long = k; revised = a; identity = rw (d, take_at is rest 26 n); behind = sym (drop-drop 26 10 b) ∙ rw (d, drop_at is rest 26 n) }

-- what follows the header is as long as the front says
tail-length : (t : Table) (n : ℕ) → length (lay (tail t) (told t n)) ≡ front t - 36
unfolding lay_with le
tail-length pptt n = refl
tail-length srat n = refl
tail-length hmat n = refl
tail-length cedt n = refl

-- ---- the records

-- the record of a node stands behind those of the nodes before it
records-at : (t : Table) (later before : List Node) (n : Node) → (rest : List ℕ) × (records t (later ++ (n ∷ before)) ≡ records t before ++ (bytes (place_of (starts t before)) n ++ rest))
unfolding records
records-at t [] before n = ([], rw append-nil)
records-at t (x ∷ later) before n =
    let (rest, e) = records-at t later before n in
    let more = bytes (place_of (starts t (later ++ (n ∷ before)))) x in
    (rest ++ more, rw e (simp append_assoc))

sizes-less : (later before : List Node) (n : Node) → sizes before + size n.form ≤ sizes (later ++ (n ∷ before))
unfolding sizes
sizes-less [] before n = omega arith
sizes-less (x ∷ later) before n = omega (arith, sizes-less later before n)

good-at : (t : Table) (later before : List Node) (n : Node) → Good t (later ++ (n ∷ before)) → GoodNode t (starts t before) n
good-at t [] before n g = g.0
good-at t (x ∷ later) before n g = good-at t later before n g.1

-- ---- what is seen of them

seen-past : (t : Table) (ns : List Node) (ss : List Seen) (k : ℕ) → get_elem? (seen_all t ns ss) (length ns + k) ≡ get_elem? ss k
seen-past t [] ss k = rw zero-add
seen-past t (n ∷ ns) ss k =
    let e : suc (length ns) + k ≡ length ns + suc k = omega arith in
    rw e (seen-past t ns (seen_of (front t + sizes ns) (starts t ns) n ∷ ss) (suc k))

seen_at : (t : Table) (later before : List Node) (n : Node) (ss : List Seen)
    → get_elem? (seen_all t (later ++ (n ∷ before)) ss) (length before) ≡ some (seen_of (front t + sizes before) (starts t before) n)
seen_at t [] before n ss = rw add-zero at (seen-past t before (seen_of (front t + sizes before) (starts t before) n ∷ ss) 0)
seen_at t (x ∷ later) before n ss = seen_at t later before n (seen_of (front t + sizes (later ++ (n ∷ before))) (starts t (later ++ (n ∷ before))) x ∷ ss)

seen-length : (t : Table) (ns : List Node) (ss : List Seen) → length (seen_all t ns ss) ≡ length ns + length ss
seen-length t [] ss = rw zero-add
seen-length t (n ∷ ns) ss = seen-length t ns (seen_of (front t + sizes ns) (starts t ns) n ∷ ss) ∙ omega arith

pub past_end : {A : Type 0} (xs : List A) (k : ℕ) → length xs ≤ k → get_elem? xs k ≡ none
past_end [] k l = refl
past_end (x ∷ xs) zero l = absurd (omega arith)
past_end (x ∷ xs) (suc k) l = past_end xs k (omega arith)

-- ---- the table of what a recipe means

module _ (r : List ℕ) (m : Meaning) (b : Bytes r) (says : Says r m) where
  e : meaning r ≡ given m
  e = (meaning-given r m).1 says

  good : Means m
  good = meaning-good r m b e

  is : table r ≡ table_from m
  unfolding table
  is = rw e

  -- every row known, the table is accepted with these records
  pub table-seen : accept (table r) every ≡ given (seen_all m.head.table m.nodes [])
  unfolding accept table_from summed
  table-seen =
      let h = m.head in
      let k = length m.nodes in
      let rs = records h.table m.nodes in
      let x = front h.table + length rs in
      let c = check_of (sum (header h k x 0 ++ rs)) in
      let l : x ≤ limit = rw (length-records h.table m.nodes) good.short in
      let v : h.revision ≡ revision h.table = ap (λ (h : Head). h.revision) good.head in
      rw (
        is,
        judged h good.identity k rs x c l refl refl,
        walked-is h good.identity k rs x c l refl refl every,
        v,
        walk-good h.table m.nodes good.good good.short,
      )

  count : length (seen_all m.head.table m.nodes []) ≡ length m.nodes
  count = seen-length m.head.table m.nodes [] ∙ add-zero (length m.nodes)

  module _ (later before : List Node) (n : Node) (q : m.nodes ≡ later ++ (n ∷ before)) where
    node-good : GoodNode m.head.table (starts m.head.table before) n
    node-good = good-at m.head.table later before n (rw q at good.good)

    node-short : front m.head.table + sizes before ≤ limit
    node-short = omega (arith, good.short, ap sizes q, sizes-less later before n)

    node-here : get_elem? (seen_all m.head.table m.nodes []) (length before) ≡ some (seen_of (front m.head.table + sizes before) (starts m.head.table before) n)
    node-here = rw q (seen_at m.head.table later before n [])

    node-fields : read (table r) every (length before) ≡ given (answer_on m.head.table (length m.nodes) before n)
    unfolding read
    node-fields =
        let t = m.head.table in
        let es = starts t before in
        rw (
          table-seen,
          node-here,
          count,
          length-bytes (place_of es) n,
          fields-seen (front t + sizes before) es (starts-rise t before) node-short t n node-good,
        )

    node-list : read_part (table r) every (length before) ≡ list_in n.form (bytes (place_of (starts m.head.table before)) n)
    unfolding read_part part_of
    node-list =
        let t = m.head.table in
        let es = starts t before in
        rw (table-seen, node-here, form-rec (front t + sizes before) es (starts-rise t before) node-short t n node-good)

  pub shows : Shows r m
  unfolding read
  shows =
      record {
        fields = node-fields;
        list = node-list;
        past = λ k l. rw (table-seen, past_end (seen_all m.head.table m.nodes []) k (rw count l), count);
      }

  -- ---- what stands where

  from_front : drop (front m.head.table) (table r) ≡ records m.head.table m.nodes
  unfolding table_from summed
  from_front =
      let h = m.head in
      let t = h.table in
      let k = length m.nodes in
      let rs = records t m.nodes in
      let c = check_of (sum (header h k (front t + length rs) 0 ++ rs)) in
      rw (is, drop_at (header h k (front t + length rs) c) rs (front t) (length-header h k (front t + length rs) c good.identity))

  node-bytes : (later before : List Node) (n : Node) → m.nodes ≡ later ++ (n ∷ before)
      → part (table r) (front m.head.table + sizes before) (size n.form) ≡ lay_with (place_of (starts m.head.table before)) (layout n.form) n.values
  unfolding part bytes
  node-bytes later before n q =
      let t = m.head.table in
      let x = bytes (place_of (starts t before)) n in
      let (rest, s) = records-at t later before n in
      rw (← drop-drop (sizes before) (front t) (table r), from_front, q, s, drop_at (records t before) (x ++ rest) (sizes before) (length-records t before), take_at x rest (size n.form) (length-bytes (place_of (starts t before)) n))

  table-begins : Begins m.head.table (length_of m) (revision m.head.table) m.head.identity
      (lay (tail m.head.table) (told m.head.table (length m.nodes)) ++ records m.head.table m.nodes) (table r)
  unfolding table_from summed header
  table-begins =
      let h = m.head in
      let t = h.table in
      let k = length m.nodes in
      let rs = records t m.nodes in
      let y = lay (tail t) (told t k) in
      let n : length rs ≡ sizes m.nodes = length-records t m.nodes in
      let c = check_of (sum (header h k (front t + length rs) 0 ++ rs)) in
      let v : h.revision ≡ revision t = ap (λ (h : Head). h.revision) good.head in
      let d : table r ≡ sign t ++ (le 4 (front t + length rs) ++ (h.revision ∷ c ∷ (h.identity ++ (y ++ rs)))) = is ∙ simp append_assoc in
      let B : Begins t (front t + length rs) h.revision h.identity (y ++ rs) (table r) =
      rw d (begins t (front t + length rs) h.revision c h.identity (y ++ rs) (omega (arith, good.short)) good.identity) in
      rw (n, v) at B

  pub lies : Lies r m
  unfolding part
  lies =
      let t = m.head.table in
      let B = table-begins in
      let y = lay (tail t) (told t (length m.nodes)) in
      let rs = records t m.nodes in
      let l : length (table r) ≡ length_of m = rw is (length-table m good.identity) in
      let tl : length y ≡ front t - 36 = tail-length t (length m.nodes) in
      record {
        named = says.head.2;
        signature = B.signature;
        long = B.long ∙ sym l;
        whole = rw B.long (take_all (length_of m) (table r) (omega arith));
        revised = B.revised;
        identity = B.identity ∙ ap (λ (h : Head). h.identity) says.identity;
        behind = rw (B.behind, take_at y rs (front t - 36) tl);
        nodes = node-bytes;
        ends = l;
        current = λ later before n q. row_fresh n.form n.values (good-at t later before n (rw q at good.good)).within;
      }

-- of every recipe that builds
pub built-table : (r : List ℕ) (k n : ℕ) → Bytes r → build r k ≡ given n → (m : Meaning) × Says r m × Lies r m × Shows r m
built-table r k n b e = let (m, s, l, z) = ((exactly r k).length n).0 e in (m, s, lies r m b s, shows r m b s)

-- and what is shown is what the normal form says
pub shows-normal : (r : List ℕ) (k n : ℕ) → Bytes r → build r k ≡ given n → ShowsNormal r
shows-normal r k n b e =
    let (m, s, l, z) = built-table r k n b e in
    let i = (meaning-given r m).1 s in
    record { said = m; by_normal = normal-same r m b i; by_recipe = i; shows = z }
