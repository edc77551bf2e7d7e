-- What a table means, read out by places: the walk from record to record gives the calls of the nodes that the records stand for, by induction over the bytes that are left.
use mathlib.Core.Path.{◌≡◌, refl, ◌∙◌}
use Prim.Native.Nat.{ℕ, zero, suc, ◌+◌, ◌≤◌, ◌<◌}
use mathlib.Core.List.{List, [], ◌∷◌, ◌++◌, append_assoc, append-nil}
use mathlib.Core.Bool.{Bool, true, false}
use mathlib.Core.Option.{Option, none, some, map}
use mathlib.Core.Logic.{⊎_elim}
use native.Mathlib.Omega.{arith}
use lib.ListN.{length, drop}
use Rattle.format.specs.Bytes.{pick, find, Answer, refused, given, and_then, or_refused}
use Rattle.format.specs.Layout.{Item, fix, fld, two, to, or_none, fields_with}
use Rattle.format.specs.Table.{Table}
use Rattle.format.specs.Form.{layout}
use Rattle.format.specs.Row.{Row, row_of, form_in, is_retired, known}
use Rattle.format.specs.Node.{Node, node_at, Entry, ordinal_of}
use Rattle.format.specs.Normal.{calls_of}
use Rattle.format.specs.Read.{type_in, framed, Frames, ended, bad_frame, framed_at, Seen, seen_as, entry_of, walk}
use Rattle.format.specs.Out.{every, nodes_from, old}
use Rattle.laws.proofs.Good.{knows-every}
use Rattle.laws.proofs.Masks.{walk_first}
use Rattle.frames.specs.Frames.{ahead}
use Rattle.frames.proofs.Places.{framed_then, record_at, next, ahead-end, ahead-bad, ahead-next, lt-or-le}
use Rattle.readout.specs.Places.{ordinal_at, calls_in, calls_as, is_row, calls_from, unless_unknown, first_old}
use Rattle.readout.proofs.Ordinals.{Agrees, agrees-here, agrees-next}

-- fields are the same where references are read the same
fields-same : (g h : ℕ → ℕ) → ((v : ℕ) → g v ≡ h v) → (is : List Item) (bs : List ℕ) → fields_with g is bs ≡ fields_with h is bs
unfolding fields_with
fields-same g h e [] bs = refl
fields-same g h e (fix w v ∷ is) bs = fields-same g h e is (drop w bs)
fields-same g h e (fld w ∷ is) bs = rw (fields-same g h e is (drop w bs))
fields-same g h e (two w k ∷ is) bs = rw (fields-same g h e is (drop w bs))
fields-same g h e (to y ∷ is) bs = rw (fields-same g h e is (drop 4 bs), e)
fields-same g h e (or_none y ∷ is) bs = rw (fields-same g h e is (drop 4 bs), e)

module _ (t : Table) (rev : ℕ) (c : List ℕ) where
  abbrev pub Out : ℕ → List Node → Answer (List Node) → Type 0
  Out p ns a = and_then a (λ ms. given (calls_of ms)) ≡ unless_unknown t rev (calls_of ns ++ calls_from t rev (ordinal_at t c) (ahead t c p)) (ahead t c p)

  out-end : (p : ℕ) (es : List Entry) (ns : List Node) (ss : List Seen) → length c ≤ p → walk t rev every es (ahead t c p) ≡ given ss → Out p ns (nodes_from es ns ss)
  unfolding walk nodes_from unless_unknown calls_from
  out-end p es ns ss l w =
      let z : given [] ≡ given ss = rw (ahead-end t c p l) at w in
      let e : [] ≡ ss = cc in
      rw (← e, ahead-end t c p l, append-nil)

  out_step : (o : Option Row) (p : ℕ) (bs : List ℕ) (ns : List Node) (g h : ℕ → ℕ) (F : List Node → Answer (List Node)) (more : List ℕ) (fs : Frames) → ((v : ℕ) → g v ≡ h v)
      → ((n : Node) → and_then (F (n ∷ ns)) (λ ms. given (calls_of ms)) ≡ unless_unknown t rev (calls_of (n ∷ ns) ++ more) fs)
      → and_then (and_then (or_refused 29 p (known every o)) (λ r. F (node_at h (form_in r bs) bs ∷ ns))) (λ ms. given (calls_of ms))
      ≡ pick (is_row o) (unless_unknown t rev (calls_of ns ++ pick (is_row o) (calls_as g o bs ++ more) []) fs) (refused 29 p)
  unfolding calls_of node_at calls_in
  out_step none p bs ns g h F more fs e ih = refl
  out_step (some r) p bs ns g h F more fs e ih =
      rw (knows-every r, fields-same g h e (layout (form_in r bs)) bs) (ih (node_at h (form_in r bs) bs) ∙ rw append_assoc)

  pub out-all : (k p : ℕ) (es : List Entry) (ns : List Node) (ss : List Seen) → length c ≤ p + k → Agrees t c p es → walk t rev every es (ahead t c p) ≡ given ss → Out p ns (nodes_from es ns ss)
  unfolding walk nodes_from unless_unknown calls_from
  out-all zero p es ns ss l a w = out-end p es ns ss (omega arith) w
  out-all (suc k) p es ns ss l a w =
      ⊎_elim (λ (m : p < length c). by m (framed t (drop p c)) refl (out-all k (next t c p))) (λ (m : length c ≤ p). out-end p es ns ss m w) (lt-or-le p (length c))
    where
      bs : List ℕ
      bs = record_at t c p

      by : p < length c → (x : Bool) → framed t (drop p c) ≡ x
          → ((es : List Entry) (ns : List Node) (ss : List Seen) → length c ≤ next t c p + k → Agrees t c (next t c p) es → walk t rev every es (ahead t c (next t c p)) ≡ given ss → Out (next t c p) ns (nodes_from es ns ss))
          → Out p ns (nodes_from es ns ss)
      by m false f ih = absurd (let z : refused 25 p ≡ given ss = rw (ahead-bad t c p m f) at w in let o : ◌≡◌ {A = ℕ} 0 1 = cc in omega arith)
      by m true f ih =
          let F = framed_then t (drop p c) f in
          let fs = ahead t c (next t c p) in
          let es' = entry_of (seen_as t rev every p bs) ∷ es in
          let (ss', fine, rest, is) = walk_first t rev every es p bs fs (rw (ahead-next t c p f) at w) in
          let a' = agrees-next t c p (type_in t bs) (length bs) es f a in
          let l' : length c ≤ next t c p + k = omega (arith, F.some, F.long) in
          rw (← is, ahead-next t c p f)
          (out_step (row_of t rev (type_in t bs) bs) p bs ns (ordinal_at t c p) (ordinal_of es) (λ ms. nodes_from es' ms ss') (calls_from t rev (ordinal_at t c) fs) fs (agrees-here t c p es a)
          (λ n. ih es' (n ∷ ns) ss' l' a' rest))

-- the first record of a retired row is the same for who sees records and for who looks at frames
pub old-told : (t : Table) (rev : ℕ) (es : List Entry) (fs : Frames) (ss : List Seen) → walk t rev every es fs ≡ given ss → map (λ s. s.place) (old ss) ≡ first_old t rev fs
unfolding walk old first_old
old-told t rev es ended ss e = let z : [] ≡ ss = cc in rw (← z)
old-told t rev es (bad_frame p) ss e = absurd (let z : ◌≡◌ {A = ℕ} 0 1 = cc in omega arith)
old-told t rev es (framed_at p bs rest) ss e =
    let (us, fine, more, is) = walk_first t rev every es p bs rest e in
    rw (← is) (by (row_of t rev (type_in t bs) bs) us (old-told t rev (entry_of (seen_as t rev every p bs) ∷ es) rest us more))
  where
    by : (o : Option Row) (us : List Seen) → map (λ s. s.place) (find (λ s. is_retired s.row) us) ≡ first_old t rev rest
        → map (λ (s : Seen). s.place) (pick (is_retired (known every o)) (some (seen_as t rev every p bs)) (find (λ s. is_retired s.row) us)) ≡ pick (is_retired o) (some p) (first_old t rev rest)
    by none us ih = ih
    by (some r) us ih = rw (knows-every r) (split (is_retired (some r)))
      where
        split : (x : Bool) → map (λ (s : Seen). s.place) (pick x (some (seen_as t rev every p bs)) (find (λ s. is_retired s.row) us)) ≡ pick x (some p) (first_old t rev rest)
        split true = refl
        split false = ih
