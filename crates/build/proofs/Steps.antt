-- A turn of the pass keeps what the buffer and the numbers hold: the start, one record, and the end.
use mathlib.Core.Path.{◌≡◌, refl, sym, ap, ◌∙◌}
use Prim.Native.Nat.{ℕ, suc, ◌+◌, ◌-◌, ◌%◌, ◌≤◌, ◌<◌}
use mathlib.Core.List.{List, [], ◌∷◌, ◌++◌, append_assoc, append-nil}
use mathlib.Core.Bool.{Bool, true, false}
use mathlib.Core.Logic.{inl}
use mathlib.Core.Option.{none, some}
use native.Mathlib.Numerals.{add-one}
use native.Mathlib.Omega.{arith}
use native.Mathlib.Nat.{zero-add}
use lib.ListN.{length, take, drop, get_or, replicate, length-append, length-drop, drop_of_length-le}
use lib.Seq.{length-take-le}
use lib.Dec.{eqb}
use borrow.Author.Tests.{eqb-false, le-ltb}
use Rattle.std.specs.Prelude.{Option, Some, None}
use Rattle.format.specs.Bytes.{Bytes, pick, at, le, part, over, sum, given}
use Rattle.format.specs.Layout.{width, fields}
use Rattle.format.specs.Table.{Table, pptt, front, limit}
use Rattle.format.specs.Node.{Node, sizes}
use Rattle.format.specs.Form.{byte}
use Rattle.format.specs.Kind.{Kind, kind_of, body, part_in, width_behind}
use Rattle.format.specs.Recipe.{Meaning, means, cut, added, meaning}
use Rattle.format.specs.Build.{records, header, check_of, summed, table_from, table}
use Rattle.laws.proofs.Bytes.{bytes_drop, length_part, length_over, sum-append}
use Rattle.laws.proofs.Lays.{Fit}
use Rattle.laws.proofs.Fields.{body-window}
use Rattle.laws.proofs.Heads.{length-records, length-header}
use Rattle.laws.proofs.Grows.{passed, kind_home, Grown, grown-good, grows}
use Rattle.laws.proofs.Builds.{other-table, body-fits, kind-home}
use Rattle.recipe.specs.declared.Reference.{Reference}
use Rattle.recipe.specs.declared.Reference.TheVariants as names
use Rattle.recipe.specs.Kinds.{naming, ordinal_in}
use Rattle.recipe.specs.Machine.{refers}
use Rattle.marks.specs.declared.Mark.{Mark}
use Rattle.marks.specs.Marks.{mark_in, noted, Every}
use Rattle.marks.proofs.Laws.{none_kept, noted-keeps}
use Rattle.writes.specs.declared.State.{State}
use Rattle.writes.specs.declared.Change.{Change}
use Rattle.writes.specs.declared.Found.{Found}
use Rattle.writes.specs.Writes.{windowed, fields_in, change_of, wrote}
use Rattle.build.specs.Write.{place_in}
use Rattle.build.specs.Held.{head_in, front_of, Marked, Leads, Placed, Reaches, kept_with, Held, Ready, Ends, Builds}
use Rattle.header.proofs.Laws.{front-small, front_long}
use Rattle.build.proofs.Headers.{header-any, finished}
use Rattle.build.proofs.Sums.{part-laid, sum-front, sum-moves}
use Rattle.build.proofs.Turns.{Laid, Turned, turned}
use Rattle.build.proofs.Whole.{Turn, turn, turn-as, run-keeps, run_end, from-head}
use Rattle.build.proofs.Walks.{reaches, reaches-older, marked-newer, marked-leads, newest-marked}
use Rattle.build.proofs.Names.{names-pptt, older-added}

pub length_front : (t : Table) (r : List ℕ) (n : ℕ) → 28 ≤ length r → length (front_of t r n) ≡ front t
length_front t r n h = length-header (head_in t r) 0 n 0 (length_part r 2 26 (omega arith))

ten : (t : Table) (r : List ℕ) (n : ℕ) (rs : List ℕ) → 28 ≤ length r → 10 ≤ length (front_of t r n ++ rs)
ten t r n rs h = rw (length-append, length_front t r n h) (omega (arith, front_long t))

older : (t : Table) (ns : List Node) → front t + sizes (drop 1 ns) ≤ front t + sizes ns
unfolding sizes
older t [] = omega arith
older t (n ∷ ns) = omega arith

-- ---- one record

-- where the record stands that a reference names
found_at : List ℕ → Option Reference → Found
found_at out x = let p = place_in out (ordinal_in x) in record { processor = record { 0 = p }; cache = record { 0 = p } }

placed_at : (out : List ℕ) (x : Option Reference) → Placed out x (found_at out x)
unfolding found_at
placed_at out (Some (names.Processor h)) = refl
placed_at out (Some (names.Cache h)) = refl
placed_at out None = tt

-- bytes change, and bytes come: of the buffers, and of the sums
module _ {xs fs : List ℕ} {t : Table} {ns more : List Node} {c : Change} {out out' : List ℕ} (h : Turned xs fs t ns more c out') (held : out ≡ over xs 0 (fs ++ records t ns))
    (room : length fs + sizes more ≤ length xs) where
  lengths : (length fs + sizes ns ≡ length h.head + (length h.old + length h.kept))
      × (length fs + sizes more ≡ length h.head + (length h.new + (length h.kept + length h.tail)))
  lengths = (simp (length-append, length-records) at (ap length h.was), simp (length-append, length-records) at (ap length h.is))

  pub grown-by : sizes more ≡ sizes ns + c.more
  grown-by = omega (arith, lengths.0, lengths.1, h.same, h.extra)

  old-part : part out c.from c.len ≡ h.old
  old-part = rw (held, h.was, h.from, h.len) (part-laid xs h.head h.old h.kept (rw (length-append, length-append) (omega (arith, lengths.0, lengths.1, h.same))))

  new-part : part out' c.from c.len ≡ h.new
  new-part = rw (h.held, h.is, h.from, h.len, ← h.same) (part-laid xs h.head h.new (h.kept ++ h.tail) (rw (length-append, length-append, length-append) (omega (arith, lengths.1))))

  tail-part : (q : ℕ) → q ≡ length fs + sizes ns → part out' q c.more ≡ h.tail
  tail-part q d =
      let hs = h.head ++ (h.new ++ h.kept) in
      let e : fs ++ records t more ≡ hs ++ (h.tail ++ []) = h.is ∙ simp (append_assoc, append-nil) in
      let l : q ≡ length hs = d ∙ rw (length-append, length-append) (omega (arith, lengths.0, h.same)) in
      rw (h.held, e, l, h.extra) (part-laid xs hs h.tail [] (rw (← e, length-append, length-records) room))

  sums : sum (records t more) + sum h.old ≡ sum (records t ns) + sum h.new + sum h.tail
  sums = omega (arith, simp sum-append at (ap sum h.was), simp sum-append at (ap sum h.is))

  pub sum-turned : (q k l m v w u : ℕ) → q ≡ length fs + sizes ns → v ≡ (k + l + sum (records t ns)) % 256 → w ≡ (v + check_of (sum (part out c.from c.len))) % 256
      → u ≡ (w + sum (part out' c.from c.len) + sum (part out' q c.more) + check_of l + m) % 256
      → u ≡ (k + m + sum (records t more)) % 256
  sum-turned q k l m v w u d ev ew eu =
      sum-moves k l (sum (records t ns)) (sum h.old) (sum h.new) (sum h.tail) m (sum (records t more)) v w u ev (rw old-part at ew) (rw (new-part, tail-part q d) at eu) sums

module _ (xs r : List ℕ) (t : Table) (m : Meaning) (s : State) (out ms : List ℕ) (h : Held xs r t m s out ms) where
  abbrev fs : List ℕ
  fs = front_of t r (front t)

  held-room : front t + sizes h.nodes ≤ length xs
  held-room = let k = (run-keeps (head_in t r) h.since h.width h.nodes (cut t 0 s.at (drop s.at r)) m h.leads).1 in omega (arith, h.space)

  laid : Laid xs fs t h.nodes s out
  laid =
      record {
        long = length_front t r (front t) h.whole;
        ends = h.ends;
        place = h.place;
        counts = h.counts;
        few = h.few;
        counted = h.counted;
        good = h.good;
        short = h.short;
        room = held-room;
        held = h.held;
      }

  module _ (k : Kind) (l : s.at < length r) (e : kind_of t (get_or r s.at 0) ≡ some k) where
    abbrev vs : List ℕ
    vs = fields (body k) (drop (suc s.at) r)

    found : Turn (head_in t r) r h.width h.nodes s.at k m
    found = turn-as (head_in t r) h.since r h.width h.nodes s.at m k l e h.leads

    pub whole : suc s.at + width (body k) ≤ length r
    whole = found.whole

    own : kind_home k ≡ t
    own = kind-home t (get_or r s.at 0) k e

    fit : Fit (body k) vs
    fit = body-fits k (drop (suc s.at) r) (bytes_drop (suc s.at) r h.bytes) (rw length-drop (omega (arith, whole)))

    good : Grown t (added k vs h.nodes)
    good =
        let g : Grown (kind_home k) (added k vs h.nodes) = grows k vs h.nodes fit (rw own (passed t h.width h.nodes k vs found.sound)) found.free (rw own h.good) in
        rw own at g

    -- d: where the record stands that it names
    turns : (d : Found) → Placed out (naming k vs) d → Turned xs fs t h.nodes (added k vs h.nodes) (change_of k s vs) (wrote k s d (change_of k s vs).from vs out)
    turns d z =
        let g : Turned xs fs (kind_home k) h.nodes (added k vs h.nodes) (change_of k s vs) (wrote k s d (change_of k s vs).from vs out) = turned k vs d z (rw own laid) fit (rw own (passed t h.width h.nodes k vs found.sound)) (rw own good) in
        rw own at g

    more_room : length fs + sizes (added k vs h.nodes) ≤ length xs
    more_room =
        let a = (run-keeps (head_in t r) found.since (width_behind (part_in k) h.width) (added k vs h.nodes) (cut t 0 (suc s.at + width (body k)) (drop (suc s.at + width (body k)) r)) m found.leads).1 in
        omega (arith, h.space, laid.long)

    somehow : Turned xs fs t h.nodes (added k vs h.nodes) (change_of k s vs) (wrote k s (found_at out (naming k vs)) (change_of k s vs).from vs out)
    somehow = turns (found_at out (naming k vs)) (placed_at out (naming k vs))

    -- the bytes that change stand in the table, and so in the buffer
    pub in_table : (change_of k s vs).from + (change_of k s vs).len ≤ s.end
    in_table = omega (arith, somehow.from, somehow.len, (lengths somehow h.held more_room).0, laid.long, h.ends)

    pub in_buffer : (change_of k s vs).from + (change_of k s vs).len ≤ length out
    in_buffer = rw (h.held, length_over) (omega (arith, in_table, h.ends, held-room))

    pub longer : s.end + (change_of k s vs).more ≡ front t + sizes (added k vs h.nodes)
    longer = omega (arith, grown-by somehow h.held more_room, h.ends)

    pub short : s.end + (change_of k s vs).more ≤ limit
    short = omega (arith, longer, (passed t h.width h.nodes k vs found.sound).short)

    -- what the marks lead to, if the record has a reference
    reached : (refers k (drop (suc s.at) r) ≡ 0 → ⊥) → Reaches out h.nodes
    reached z =
        let e = sym own ∙ names-pptt k (drop (suc s.at) r) z in
        reaches t xs fs h.nodes out e laid.long held-room (grown-good t h.nodes (λ f. other-table refl (sym e ∙ f)) h.good) h.held

    pub leading : (refers k (drop (suc s.at) r) ≡ 0 → ⊥) → Every (Leads out) ms
    leading z i y =
        let e : t ≡ pptt = sym own ∙ names-pptt k (drop (suc s.at) r) z in
        let es = drop 1 h.nodes in
        let l : front t + sizes es ≤ limit = omega (arith, older t h.nodes, h.short) in
        marked-leads out es (mark_in (at ms i)) (rw e at l) (reaches-older out h.nodes (reached z)) (rw e at (h.marked i y))

    -- what the marks were at, they are at after it
    still : Every (Marked t (drop 1 (added k vs h.nodes))) ms
    still i y =
        let w = h.marked i y in
        older-added (λ es. Marked t es (mark_in (at ms i))) k vs h.nodes (passed t h.width h.nodes k vs found.sound).place (marked-newer t h.nodes (mark_in (at ms i)) w) w

    pub goes : (d : Found) → Placed out (naming k vs) d → (out' : List ℕ) → out' ≡ wrote k s d (change_of k s vs).from vs out → (s' : State) (w : ℕ) → s'.at ≡ suc s.at + width (body k) → s'.end ≡ s.end + (change_of k s vs).more → s'.latest ≡ (change_of k s vs).latest
        → w ≡ (s.sum.value + check_of (sum (part out (change_of k s vs).from (change_of k s vs).len))) % 256
        → s'.sum.value ≡ (w + sum (part out' (change_of k s vs).from (change_of k s vs).len) + sum (part out' s.end (change_of k s vs).more) + check_of (sum (le 4 s.end)) + sum (le 4 (s.end + (change_of k s vs).more))) % 256
        → Held xs r t m s' out' ms
    goes d z out' eo s' w ea ee el ew eu =
        let l = laid.long in
        let y : Turned xs fs t h.nodes (added k vs h.nodes) (change_of k s vs) out' = rw eo (turns d z) in
        let b : s.end ≡ length fs + sizes h.nodes = omega (arith, h.ends) in
        record {
          bytes = h.bytes;
          whole = h.whole;
          space = h.space;
          nodes = added k vs h.nodes;
          good = good;
          short = (passed t h.width h.nodes k vs found.sound).short;
          since = found.since;
          width = width_behind (part_in k) h.width;
          leads = rw ea found.leads;
          ends = ee ∙ longer;
          place = rw el y.place;
          counts = rw el y.counts;
          few = rw el y.few;
          held = y.held;
          counted = rw el y.counted;
          marked = still;
          sums = sum-turned y h.held more_room s.end (sum (header (head_in t r) 0 0 0)) (sum (le 4 s.end)) (sum (le 4 (s.end + (change_of k s vs).more))) s.sum.value w s'.sum.value b
              (h.sums ∙ ap (λ (n : ℕ). n % 256) (sum-front (head_in t r) s.end (records t h.nodes))) ew eu
              ∙ ap (λ (n : ℕ). n % 256) (rw ee (sym (sum-front (head_in t r) (s.end + (change_of k s vs).more) (records t (added k vs h.nodes)))));
        }

    -- the same of what the code says of the body, whose n bytes it lends, of the change and of the buffer
    module _ (n : ℕ) (c : Change) (en : n ≡ width (body k)) (ec : c ≡ change_of k s (fields (body k) (take n (drop (s.at + 1) r)))) where
      abbrev bs : List ℕ
      bs = take n (drop (s.at + 1) r)

      fields-are : fields (body k) bs ≡ vs
      fields-are = body-window k (drop (s.at + 1) r) n (omega arith) ∙ ap (λ (i : ℕ). fields (body k) (drop i r)) (add-one s.at)

      change-is : c ≡ change_of k s vs
      change-is = ec ∙ ap (λ (l : List ℕ). change_of k s l) fields-are

      pub leads-there : (refers k bs ≡ 0 → ⊥) → Every (Leads out) ms
      leads-there z = leading (λ e. z (ap (λ (l : List ℕ). ordinal_in (naming k l)) fields-are ∙ e))

      pub in-limit : s.end + c.more ≤ limit
      in-limit = rw change-is short

      -- the bytes that change, and those that come, stand in the buffer
      pub changing : c.from + c.len ≤ length out
      changing = rw change-is in_buffer

      pub coming : s.end + c.more ≤ length out
      coming = rw (change-is, longer, h.held, length_over) (omega (arith, more_room, laid.long))

      -- the body is not cut
      uncut : fields_in k bs ≡ vs
      unfolding windowed
      uncut =
          let l : length bs ≡ n = length-take-le n (drop (s.at + 1) r) (rw length-drop (omega (arith, whole))) in
          rw (le-ltb (length bs) (width (body k)) (omega arith)) (body-window k bs (width (body k)) (omega arith) ∙ fields-are)

      pub stepped : (d : Found) → Placed out (naming k (fields (body k) bs)) d → (out' : List ℕ) (s' : State) (w : ℕ)
          → out' ≡ wrote k s d c.from (fields_in k bs) out → s'.at ≡ s.at + 1 + width (body k) → s'.end ≡ s.end + c.more → s'.latest ≡ c.latest
          → w ≡ (s.sum.value + check_of (sum (part out c.from c.len))) % 256
          → s'.sum.value ≡ (w + sum (part out' c.from c.len) + sum (part out' s.end c.more) + check_of (sum (le 4 s.end)) + sum (le 4 (s.end + c.more))) % 256
          → Held xs r t m s' out' ms
      stepped d z out' s' w eo ea ee el ew eu =
          let f = change-is in
          goes d (rw fields-are at z) out' (rw (uncut, f) at eo) s' w (ea ∙ ap (λ (i : ℕ). i + width (body k)) (add-one s.at)) (rw f at ee) (rw f at el) (rw f at ew) (rw f at eu)

-- the newest record stands within the limit
module _ (r : List ℕ) (t : Table) (s : State) (out ms : List ℕ) (y : Ready r t s out ms) where
  pub low : s.latest.place ≤ limit
  low =
      let h = y.holds in
      let l : front t + sizes (drop 1 h.nodes) ≤ front t + sizes h.nodes = older t h.nodes in
      omega (arith, h.place, h.short)

-- ---- marks

module _ (xs r : List ℕ) (t : Table) (m : Meaning) (s : State) (out ms : List ℕ) (h : Held xs r t m s out ms) where
  -- other marks, as good
  remarked : (ms' : List ℕ) → Every (Marked t (drop 1 h.nodes)) ms' → Held xs r t m s out ms'
  remarked ms' good =
      record {
        bytes = h.bytes;
        whole = h.whole;
        space = h.space;
        nodes = h.nodes;
        good = h.good;
        short = h.short;
        since = h.since;
        width = h.width;
        leads = h.leads;
        ends = h.ends;
        place = h.place;
        counts = h.counts;
        few = h.few;
        held = h.held;
        counted = h.counted;
        marked = good;
        sums = h.sums;
      }

  -- none
  pub unmarked : (n : ℕ) → Held xs r t m s out (replicate n 0)
  unmarked n = remarked (replicate n 0) (none_kept (Marked t (drop 1 h.nodes)) n)

  -- with one at the newest record
  pub kept : (shift : ℕ) → Held xs r t m s out (kept_with s.latest shift ms)
  unfolding kept_with
  kept shift = remarked (kept_with s.latest shift ms) (by (eqb s.latest.nodes 0) refl)
    where
      new : Mark
      new = record { nodes = s.latest.nodes - 1; place = s.latest.place }

      by : (b : Bool) → eqb s.latest.nodes 0 ≡ b → Every (Marked t (drop 1 h.nodes)) (pick b ms (noted new shift (s.latest.nodes - 1) ms))
      by true e = h.marked
      by false e =
          let l : front t + sizes (drop 1 h.nodes) ≤ front t + sizes h.nodes = older t h.nodes in
          noted-keeps (Marked t (drop 1 h.nodes)) new shift (s.latest.nodes - 1) ms (omega (arith, h.place, h.short))
          (newest-marked t h.nodes s.latest.nodes s.latest.place h.counted (eqb-false s.latest.nodes 0 e) h.place) h.marked

-- a pass may begin without any
module _ {r : List ℕ} {t : Table} {s : State} {out ms : List ℕ} (n : ℕ) (e : ms ≡ replicate n 0) where
  pub ready-unmarked : Ready r t s out [] → Ready r t s out ms
  ready-unmarked y = record { start = y.start; meant = y.meant; holds = rw e (unmarked y.start r t y.meant s out [] y.holds n) }

  pub ends-unmarked : {s' : State} {out' : List ℕ} → Ends r t s out ms s' out' → Ends r t s out [] s' out'
  ends-unmarked ends xs m h = ends xs m (rw e (unmarked xs r t m s out [] h n))

-- ---- the start

pub started : (xs r : List ℕ) (t : Table) (m : Meaning) (s : State) (out ps : List ℕ) (d f : ℕ) → Bytes r → Builds r t (length xs) → meaning r ≡ given m
    → out ≡ over xs 0 (front_of t r (front t)) → s.at ≡ 28 → s.end ≡ front t → s.latest.place ≡ front t → s.latest.count ≡ 0 → s.latest.nodes ≡ 0
    → d ≡ 0 → f ≡ front t → ps ≡ part out 0 f → s.sum.value ≡ (d + sum ps) % 256
    → Held xs r t m s out []
unfolding sizes records
started xs r t m s out ps d f bytes b e held sat send splace scount snodes ed ef ep es =
    let (n, own, leads) = from-head r m e in
    let same : b.meant ≡ m = cc b.means in
    let for : m.head.table ≡ t = rw same at b.for in
    let fs = front_of t r (front t) in
    let l = length_front t r (front t) n in
    let room : front t + sizes m.nodes ≤ length xs = rw same at b.room in
    let z : part out 0 (front t) ≡ fs = rw held (rw (append-nil, l) at (part-laid xs [] fs [] (rw append-nil (omega arith)))) in
    record {
      bytes = bytes;
      whole = n;
      space = room;
      nodes = [];
      good = inl tt;
      short = omega (arith, front-small t);
      since = 0;
      width = byte;
      leads = rw (sat, ← for) leads;
      ends = send ∙ omega arith;
      place = splace ∙ omega arith;
      counts = tt;
      few = omega arith;
      held = rw append-nil held;
      counted = snodes;
      marked = λ i z. absurd (z refl);
      sums = rw (send, append-nil) (es ∙ rw (ed, ep, ef, z, zero-add));
    }

-- ---- the end

check-mod : (x : ℕ) → check_of (x % 256) ≡ check_of x
check-mod x = omega arith

check-byte : (x : ℕ) → le 1 (check_of x) ≡ check_of x ∷ []
unfolding le
check-byte x = let e : check_of x % 256 ≡ check_of x = omega arith in rw e

pub ended : (xs r : List ℕ) (t : Table) (m : Meaning) (s : State) (out ms one two : List ℕ) (v : ℕ) → Held xs r t m s out ms → length r ≤ s.at → meaning r ≡ given m
    → one ≡ over out 4 (le 4 s.end) → v ≡ check_of s.sum.value → two ≡ over one 9 (le 1 v)
    → two ≡ over xs 0 (table r)
unfolding table table_from summed cut
ended xs r t m s out ms one two v h l e eo ev et =
    let is = part r 2 26 in
    let rs = records t h.nodes in
    let same : means (head_in t r) h.nodes ≡ m = run_end (head_in t r) h.since h.width h.nodes m (rw (drop_of_length-le r l) at h.leads) in
    let lr : length rs ≡ sizes h.nodes = length-records t h.nodes in
    let len : front t + length rs ≡ s.end = omega (arith, h.ends) in
    let n = length h.nodes in
    let z : over one 9 (le 1 v) ≡ over xs 0 (header (head_in t r) 0 s.end (check_of (sum (header (head_in t r) 0 s.end 0 ++ rs))) ++ rs) =
    rw (eo, h.held, ev, h.sums, check-mod (sum (header (head_in t r) 0 s.end 0 ++ rs)), check-byte (sum (header (head_in t r) 0 s.end 0 ++ rs)))
    (finished t is rs xs (front t) s.end (check_of (sum (header (head_in t r) 0 s.end 0 ++ rs))) (ten t r (front t) rs h.whole) (ten t r s.end rs h.whole)) in
    et ∙ z ∙ rw (e, ← same, len, header-any t is n 0 s.end 0, header-any t is n 0 s.end (check_of (sum (header (head_in t r) 0 s.end 0 ++ rs))))

-- a record of no kind has no meaning
pub unknown : {A : Type 0} (r : List ℕ) (t : Table) (s : State) (out ms : List ℕ) → Ready r t s out ms → s.at < length r → kind_of t (get_or r s.at 0) ≡ none → A
unknown r t s out ms y l e =
    let h = y.holds in
    let (k, f, z) = turn (head_in t r) h.since r h.width h.nodes s.at y.meant l h.leads in
    absurd (let z : ◌≡◌ {A = ℕ} 0 1 = cc in omega arith)
