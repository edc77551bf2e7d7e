-- The sum of bytes, and the checksum: of an accepted table by the law of the checksum and what one changed byte does to the sum; a built table is accepted.
use mathlib.Core.Path.{◌≡◌}
use Prim.Native.Nat.{ℕ, ◌*◌, ◌/◌, ◌≤◌, ◌<◌}
use mathlib.Core.List.{List, [], ◌∷◌}
use native.Mathlib.Omega.{arith}
use lib.ListN.{length}
use lib.Seq.{get_or-take}
use Rattle.format.specs.Bytes.{Bytes, at, part, sum, given}
use Rattle.format.specs.Recipe.{Meaning}
use Rattle.format.specs.Build.{check_of, table_from, table, summed}
use Rattle.format.specs.Read.{length_in, own, judge_head, Seen, walked, accept}
use Rattle.format.specs.Out.{every}
use Rattle.laws.specs.Sums.{others, WholeSums, Checksums}
use Rattle.laws.proofs.Bytes.{bytes-at, drop-turn, sum-append}
use Rattle.laws.proofs.Over.{sum_over}
use Rattle.laws.proofs.Checks.{derived}
use Rattle.laws.proofs.Finds.{then-given}
use Rattle.laws.proofs.Heads.{check-at}
use Rattle.laws.proofs.Refusals.{meaning-given}
use Rattle.laws.proofs.Trips.{judged, own-whole, front-is}
use Rattle.laws.proofs.Tables.{table-seen, built-table}

-- ---- sums

sum_bound : (bs : List ℕ) → Bytes bs → sum bs ≤ 255 * length bs
unfolding sum
sum_bound [] h = omega arith
sum_bound (b ∷ bs) h = omega (arith, h.0, sum_bound bs h.1)

pub whole-sums : WholeSums
unfolding part sum
whole-sums =
    record {
      joined = sum-append;
      changed = sum_over;
      changed_byte = λ bs p c h. omega (arith, rw (drop-turn bs p h) at (sum_over bs (c ∷ []) p (omega arith)));
      bounded = sum_bound;
    }

-- ---- the checksum

-- that it is a byte is all that the law asks of a table's bytes
accepted : (b : List ℕ) (mask : ℕ) (ss : List Seen) → at b 9 < 256 → accept b mask ≡ given ss
    → ((k : ℕ) × (sum (own b) ≡ 256 * k)) × (at b 9 ≡ check_of (others (own b)))
unfolding accept
accepted b mask ss s e =
    let (t, j, w) = then-given (judge_head b) (λ t. walked t b mask) e in
    let H = judged b t j in
    let l : 9 < length_in b = omega (arith, H.long, front-is t) in
    let c = rw (get_or-take (length_in b) b 9 0 l) at (whole-sums.changed_byte (own b) 9 0 (rw (own-whole H) l)) in
    ((sum (own b) / 256, omega (arith, H.summed)), (derived (at b 9) (others (own b)) s).0 (omega (arith, H.summed, c)))

-- that of a built table is one
check-small : (m : Meaning) → at (table_from m) 9 < 256
unfolding table_from summed
check-small m = rw check-at (omega arith)

pub checksums : Checksums
unfolding table
checksums =
    record {
      derived = derived;
      built = λ r room n b e.
          let (m, s, l, z) = built-table r room n b e in
          rw l.whole at (accepted (table r) every _ (rw ((meaning-given r m).1 s) (check-small m)) (table-seen r m b s));
      accepted = λ b mask ss h. accepted b mask ss (bytes-at b 9 h);
    }
