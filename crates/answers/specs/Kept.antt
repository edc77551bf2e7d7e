-- The last word of an answer is always 'kept', and what `ok` shows is the table of the recipe, or the recipe of the table.
use Rattle.std.specs.Prelude.{◌≡◌, ℕ, List, ◌++◌, true, replicate}
use Rattle.format.specs.Bytes.{Answer, refused, given}
use Rattle.format.specs.Build.{build, table}
use Rattle.format.specs.Out.{read_out, recipe}
use Rattle.format.specs.Listing.{spaced}
use Rattle.text.specs.Text.{text, hexed}
use Rattle.answers.specs.Lines.{kept_if, refusal, fill, carried_out}
use Rattle.answers.specs.declared.Writes.TheVariants as writes

-- the line of an answer and of what was written, all else kept
unfoldable pub kept_of : Answer ℕ → List ℕ → List ℕ
kept_of (refused n p) bs = refusal n p true
kept_of (given n) bs = text "ok" ++ (spaced n ++ (text " " ++ (hexed bs ++ kept_if true)))

-- of every recipe and table, in every room
pub record Kept : Type 0 where
  pub build : (r : List ℕ) (room : ℕ) → carried_out writes.Build r (replicate room fill) ≡ kept_of (build r room) (table r)
  pub out : (b : List ℕ) (room : ℕ) → carried_out writes.Out b (replicate room fill) ≡ kept_of (read_out b room) (recipe b)
