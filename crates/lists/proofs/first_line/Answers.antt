-- `lists::first_line` meets its contract: its five pieces, each behind the one before.
use mathlib.Core.Path.{◌∙◌}
use Rattle.format.specs.Listing.{first_line}
use Rattle.laws.proofs.Bytes.{value-byte}
use Rattle.text.proofs.Texts.{next}
use Rattle.lists.proofs.first_line.Goals as goal

pub returns : goal.returns
unfolding first_line
returns c =
    next _ _ _ c.bytes.ensures (next _ _ _ c.spaced.ensures (next _ _ _ c.spaced-2.ensures (next _ _ _ c.spaced-3.ensures c.byte.ensures)))
    ∙ rw (c.first.ensures, c.revision_in.ensures, c.length_in.ensures, ← value-byte c.args.table.now 8)
