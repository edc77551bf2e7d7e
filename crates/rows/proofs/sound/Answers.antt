-- `sound` meets its contract: each row by its node, a matrix by the counts of either width; a processor and a domain have no ranges.
use Rattle.format.specs.Form.{byte}
use Rattle.format.specs.Row.{form_in}
use Rattle.rows.proofs.sound.Goals as goal

pub returns-in-Matrices : goal.returns-in-Matrices
unfolding form_in
returns-in-Matrices c = rw (c.in-Some.is, c.in-Matrices.is) (c.is_sound-in-Matrices.ensures byte)
