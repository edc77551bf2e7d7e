-- `before` meets its contract: of a kind that makes a record nothing leaves the sum, of the others as many bytes as the change says.
use Rattle.std.proofs.Common.{◌≡◌, ap, ◌∙◌, arith, rules}
use Rattle.build.proofs.Changes.{changed, spans, is-value, is-cell, unchanged}
use Rattle.build.proofs.Sums.{sum_same}
use Rattle.build.proofs.before.Goals as goal

pub without-requires : goal.without-requires
without-requires c =
    let n : c.args.change.len ≡ 20 = (spans c.args.kind c.args.change c.requires.0).0 ∙ ap changed c.in-Resource.is in
    omega (arith, n, c.requires.1)

pub without-requires-in-Initiator : goal.without-requires-in-Initiator
without-requires-in-Initiator c =
    let n : c.args.change.len ≡ 4 = (spans c.args.kind c.args.change c.requires.0).0 ∙ (is-value c.args.change.more c.in-Initiator.is).0 in
    omega (arith, n, c.requires.1)

pub without-requires-in-Cell : goal.without-requires-in-Cell
without-requires-in-Cell c =
    let n : c.args.change.len ≡ 2 = (spans c.args.kind c.args.change c.requires.0).0 ∙ (is-cell c.args.change.more c.in-Cell.is).0 in
    omega (arith, n, c.requires.1)

pub without-requires-in-Handle : goal.without-requires-in-Handle
without-requires-in-Handle c =
    let n : c.args.change.len ≡ 32 = (spans c.args.kind c.args.change c.requires.0).0 ∙ ap changed c.in-Handle.is in
    omega (arith, n, c.requires.1)

pub without-requires-in-WindowTarget : goal.without-requires-in-WindowTarget
without-requires-in-WindowTarget c =
    let n : c.args.change.len ≡ 4 = (spans c.args.kind c.args.change c.requires.0).0 ∙ ap changed c.in-WindowTarget.is in
    omega (arith, n, c.requires.1)

pub without-requires-in-Map : goal.without-requires-in-Map
without-requires-in-Map c =
    let n : c.args.change.len ≡ 8 = (spans c.args.kind c.args.change c.requires.0).0 ∙ ap changed c.in-Map.is in
    omega (arith, n, c.requires.1)

pub returns-in-Resource : goal.returns-in-Resource
returns-in-Resource c = c.without.ensures ∙ rw ((spans c.args.kind c.args.change c.requires.0).0 ∙ ap changed c.in-Resource.is)

pub returns-in-Initiator : goal.returns-in-Initiator
returns-in-Initiator c = c.without-in-Initiator.ensures ∙ rw ((spans c.args.kind c.args.change c.requires.0).0 ∙ (is-value c.args.change.more c.in-Initiator.is).0)

pub returns-in-Cell : goal.returns-in-Cell
returns-in-Cell c = c.without-in-Cell.ensures ∙ rw ((spans c.args.kind c.args.change c.requires.0).0 ∙ (is-cell c.args.change.more c.in-Cell.is).0)

pub returns-in-Handle : goal.returns-in-Handle
returns-in-Handle c = c.without-in-Handle.ensures ∙ rw ((spans c.args.kind c.args.change c.requires.0).0 ∙ ap changed c.in-Handle.is)

pub returns-in-WindowTarget : goal.returns-in-WindowTarget
returns-in-WindowTarget c = c.without-in-WindowTarget.ensures ∙ rw ((spans c.args.kind c.args.change c.requires.0).0 ∙ ap changed c.in-WindowTarget.is)

pub returns-in-Map : goal.returns-in-Map
returns-in-Map c = c.without-in-Map.ensures ∙ rw ((spans c.args.kind c.args.change c.requires.0).0 ∙ ap changed c.in-Map.is)

pub returns-in_default : goal.returns-in_default
returns-in_default c =
    let d = c.in_default in
    let n = (spans c.args.kind c.args.change c.requires.0).0 ∙ unchanged c.args.kind d.not-Resource d.not-Initiator d.not-Target d.not-Cell d.not-Handle d.not-WindowTarget d.not-Map d.not-WideInitiator d.not-WideTarget d.not-WideCell in
    sum_same c.args.sum.value c.args.out.now c.args.change.from c.args.change.len n (search rules)
