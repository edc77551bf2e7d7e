-- `Held::field` meets its contract: no field begins before the body, and a field's name goes by its distance from there.
use Rattle.recipe.specs.Kinds.{meant_kind}
use Rattle.blames.proofs.Names.{field-before, field-behind}
use Rattle.blames.proofs.Held.field.Goals as goal

pub returns-then-place-self : goal.returns-then-place-self
returns-then-place-self c =
    let a = c.args in
    rw (field-before (meant_kind a.self.kind) a.self.at a.place c.if-place-self.true)

pub returns : goal.returns
returns c =
    let a = c.args in
    rw (field-behind (meant_kind a.self.kind) a.self.at a.place c.if-place-self.false) c.field_of.ensures
