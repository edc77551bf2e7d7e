-- `after` meets its contract: what a kind writes comes to the sum, in its place and at the end, and the new length in place of the old.
use Rattle.std.proofs.Common.{◌≡◌, ap, ◌∙◌, arith}
use Rattle.build.proofs.Changes.{changed, adds, spans, is-value, is-cell, is-generic, is-sized}
use Rattle.build.proofs.Sums.{made_after, grown-after, set_after}
use Rattle.build.proofs.after.Goals as goal

pub with_more-requires : goal.with_more-requires
with_more-requires c =
    let n : c.args.change.more ≡ 20 = (spans c.args.kind c.args.change c.requires.0).1 ∙ ap (λ k. adds k c.args.change.more) c.in-Processor.is in
    omega (arith, n, c.requires.2)

pub with_more-requires-in-Cache : goal.with_more-requires-in-Cache
with_more-requires-in-Cache c =
    let n : c.args.change.more ≡ 28 = (spans c.args.kind c.args.change c.requires.0).1 ∙ ap (λ k. adds k c.args.change.more) c.in-Cache.is in
    omega (arith, n, c.requires.2)

pub with_more-requires-in-Memory : goal.with_more-requires-in-Memory
with_more-requires-in-Memory c =
    let n : c.args.change.more ≡ 40 = (spans c.args.kind c.args.change c.requires.0).1 ∙ ap (λ k. adds k c.args.change.more) c.in-Memory.is in
    omega (arith, n, c.requires.2)

pub with_more-requires-in-Acpi : goal.with_more-requires-in-Acpi
with_more-requires-in-Acpi c =
    let n : c.args.change.more ≡ 32 = (spans c.args.kind c.args.change c.requires.0).1 ∙ (is-generic c.args.change.more c.in-Acpi.is).1 in
    omega (arith, n, c.requires.2)

pub with_more-requires-in-Rintc : goal.with_more-requires-in-Rintc
with_more-requires-in-Rintc c =
    let n : c.args.change.more ≡ 20 = (spans c.args.kind c.args.change c.requires.0).1 ∙ ap (λ k. adds k c.args.change.more) c.in-Rintc.is in
    omega (arith, n, c.requires.2)

pub with_more-requires-in-Domain : goal.with_more-requires-in-Domain
with_more-requires-in-Domain c =
    let n : c.args.change.more ≡ 40 = (spans c.args.kind c.args.change c.requires.0).1 ∙ ap (λ k. adds k c.args.change.more) c.in-Domain.is in
    omega (arith, n, c.requires.2)

pub with_more-requires-in-Side : goal.with_more-requires-in-Side
with_more-requires-in-Side c =
    let n : c.args.change.more ≡ 32 = (spans c.args.kind c.args.change c.requires.0).1 ∙ ap (λ k. adds k c.args.change.more) c.in-Side.is in
    omega (arith, n, c.requires.2)

pub with_more-requires-in-Bridge : goal.with_more-requires-in-Bridge
with_more-requires-in-Bridge c =
    let n : c.args.change.more ≡ 32 = (spans c.args.kind c.args.change c.requires.0).1 ∙ ap (λ k. adds k c.args.change.more) c.in-Bridge.is in
    omega (arith, n, c.requires.2)

pub with_more-requires-in-Xor : goal.with_more-requires-in-Xor
with_more-requires-in-Xor c =
    let n : c.args.change.more ≡ 8 = (spans c.args.kind c.args.change c.requires.0).1 ∙ ap (λ k. adds k c.args.change.more) c.in-Xor.is in
    omega (arith, n, c.requires.2)

pub with-sum-requires : goal.with-sum-requires
with-sum-requires c =
    let n : c.args.change.len ≡ 20 = (spans c.args.kind c.args.change c.requires.0).0 ∙ ap changed c.in-Resource.is in
    omega (arith, n, c.requires.1)

pub with_more-requires-in-Resource : goal.with_more-requires-in-Resource
with_more-requires-in-Resource c =
    let n : c.args.change.more ≡ 4 = (spans c.args.kind c.args.change c.requires.0).1 ∙ ap (λ k. adds k c.args.change.more) c.in-Resource.is in
    omega (arith, n, c.requires.2)

pub with-sum-requires-in-Handle : goal.with-sum-requires-in-Handle
with-sum-requires-in-Handle c =
    let n : c.args.change.len ≡ 32 = (spans c.args.kind c.args.change c.requires.0).0 ∙ ap changed c.in-Handle.is in
    omega (arith, n, c.requires.1)

pub with_more-requires-in-Handle : goal.with_more-requires-in-Handle
with_more-requires-in-Handle c =
    let n : c.args.change.more ≡ 2 = (spans c.args.kind c.args.change c.requires.0).1 ∙ ap (λ k. adds k c.args.change.more) c.in-Handle.is in
    omega (arith, n, c.requires.2)

pub with-sum-requires-in-Map : goal.with-sum-requires-in-Map
with-sum-requires-in-Map c =
    let n : c.args.change.len ≡ 8 = (spans c.args.kind c.args.change c.requires.0).0 ∙ ap changed c.in-Map.is in
    omega (arith, n, c.requires.1)

pub with_more-requires-in-Map : goal.with_more-requires-in-Map
with_more-requires-in-Map c =
    let n : c.args.change.more ≡ 8 = (spans c.args.kind c.args.change c.requires.0).1 ∙ ap (λ k. adds k c.args.change.more) c.in-Map.is in
    omega (arith, n, c.requires.2)

pub with-requires : goal.with-requires
with-requires c =
    let n : c.args.change.len ≡ 4 = (spans c.args.kind c.args.change c.requires.0).0 ∙ (is-value c.args.change.more c.in-Initiator.is).0 in
    omega (arith, n, c.requires.1)

pub with-requires-in-Cell : goal.with-requires-in-Cell
with-requires-in-Cell c =
    let n : c.args.change.len ≡ 2 = (spans c.args.kind c.args.change c.requires.0).0 ∙ (is-cell c.args.change.more c.in-Cell.is).0 in
    omega (arith, n, c.requires.1)

pub with-requires-in-WindowTarget : goal.with-requires-in-WindowTarget
with-requires-in-WindowTarget c =
    let n : c.args.change.len ≡ 4 = (spans c.args.kind c.args.change c.requires.0).0 ∙ ap changed c.in-WindowTarget.is in
    omega (arith, n, c.requires.1)

pub returns-in-Processor : goal.returns-in-Processor
returns-in-Processor c = made_after c.args.sum.value c.args.out.now c.args.change.from c.args.change.len c.args.end c.args.change.more 20 c.with_more.result.value ((spans c.args.kind c.args.change c.requires.0).0 ∙ ap changed c.in-Processor.is) ((spans c.args.kind c.args.change c.requires.0).1 ∙ ap (λ k. adds k c.args.change.more) c.in-Processor.is) c.with_more.ensures

pub returns-in-Cache : goal.returns-in-Cache
returns-in-Cache c = made_after c.args.sum.value c.args.out.now c.args.change.from c.args.change.len c.args.end c.args.change.more 28 c.with_more-in-Cache.result.value ((spans c.args.kind c.args.change c.requires.0).0 ∙ ap changed c.in-Cache.is) ((spans c.args.kind c.args.change c.requires.0).1 ∙ ap (λ k. adds k c.args.change.more) c.in-Cache.is) c.with_more-in-Cache.ensures

pub returns-in-Memory : goal.returns-in-Memory
returns-in-Memory c = made_after c.args.sum.value c.args.out.now c.args.change.from c.args.change.len c.args.end c.args.change.more 40 c.with_more-in-Memory.result.value ((spans c.args.kind c.args.change c.requires.0).0 ∙ ap changed c.in-Memory.is) ((spans c.args.kind c.args.change c.requires.0).1 ∙ ap (λ k. adds k c.args.change.more) c.in-Memory.is) c.with_more-in-Memory.ensures

pub returns-in-Acpi : goal.returns-in-Acpi
returns-in-Acpi c = made_after c.args.sum.value c.args.out.now c.args.change.from c.args.change.len c.args.end c.args.change.more 32 c.with_more-in-Acpi.result.value ((spans c.args.kind c.args.change c.requires.0).0 ∙ (is-generic c.args.change.more c.in-Acpi.is).0) ((spans c.args.kind c.args.change c.requires.0).1 ∙ (is-generic c.args.change.more c.in-Acpi.is).1) c.with_more-in-Acpi.ensures

pub returns-in-Rintc : goal.returns-in-Rintc
returns-in-Rintc c = made_after c.args.sum.value c.args.out.now c.args.change.from c.args.change.len c.args.end c.args.change.more 20 c.with_more-in-Rintc.result.value ((spans c.args.kind c.args.change c.requires.0).0 ∙ ap changed c.in-Rintc.is) ((spans c.args.kind c.args.change c.requires.0).1 ∙ ap (λ k. adds k c.args.change.more) c.in-Rintc.is) c.with_more-in-Rintc.ensures

pub returns-in-Domain : goal.returns-in-Domain
returns-in-Domain c = made_after c.args.sum.value c.args.out.now c.args.change.from c.args.change.len c.args.end c.args.change.more 40 c.with_more-in-Domain.result.value ((spans c.args.kind c.args.change c.requires.0).0 ∙ ap changed c.in-Domain.is) ((spans c.args.kind c.args.change c.requires.0).1 ∙ ap (λ k. adds k c.args.change.more) c.in-Domain.is) c.with_more-in-Domain.ensures

pub returns-in-Side : goal.returns-in-Side
returns-in-Side c = made_after c.args.sum.value c.args.out.now c.args.change.from c.args.change.len c.args.end c.args.change.more 32 c.with_more-in-Side.result.value ((spans c.args.kind c.args.change c.requires.0).0 ∙ ap changed c.in-Side.is) ((spans c.args.kind c.args.change c.requires.0).1 ∙ ap (λ k. adds k c.args.change.more) c.in-Side.is) c.with_more-in-Side.ensures

pub returns-in-Bridge : goal.returns-in-Bridge
returns-in-Bridge c = made_after c.args.sum.value c.args.out.now c.args.change.from c.args.change.len c.args.end c.args.change.more 32 c.with_more-in-Bridge.result.value ((spans c.args.kind c.args.change c.requires.0).0 ∙ ap changed c.in-Bridge.is) ((spans c.args.kind c.args.change c.requires.0).1 ∙ ap (λ k. adds k c.args.change.more) c.in-Bridge.is) c.with_more-in-Bridge.ensures

pub returns-in-Xor : goal.returns-in-Xor
returns-in-Xor c = made_after c.args.sum.value c.args.out.now c.args.change.from c.args.change.len c.args.end c.args.change.more 8 c.with_more-in-Xor.result.value ((spans c.args.kind c.args.change c.requires.0).0 ∙ ap changed c.in-Xor.is) ((spans c.args.kind c.args.change c.requires.0).1 ∙ ap (λ k. adds k c.args.change.more) c.in-Xor.is) c.with_more-in-Xor.ensures

pub returns-in-Matrix : goal.returns-in-Matrix
returns-in-Matrix c = made_after c.args.sum.value c.args.out.now c.args.change.from c.args.change.len c.args.end c.args.change.more c.args.change.more c.with_more-in-Matrix.result.value ((spans c.args.kind c.args.change c.requires.0).0 ∙ (is-sized c.args.change.more c.in-Matrix.is).0) ((spans c.args.kind c.args.change c.requires.0).1 ∙ (is-sized c.args.change.more c.in-Matrix.is).1) c.with_more-in-Matrix.ensures

pub returns-in-Resource : goal.returns-in-Resource
returns-in-Resource c = grown-after c.args.sum.value c.args.out.now c.args.change.from c.args.change.len c.args.end c.args.change.more 20 4 c.with-sum.result.value c.with_more-in-Resource.result.value ((spans c.args.kind c.args.change c.requires.0).0 ∙ ap changed c.in-Resource.is) ((spans c.args.kind c.args.change c.requires.0).1 ∙ ap (λ k. adds k c.args.change.more) c.in-Resource.is) c.with-sum.ensures c.with_more-in-Resource.ensures

pub returns-in-Handle : goal.returns-in-Handle
returns-in-Handle c = grown-after c.args.sum.value c.args.out.now c.args.change.from c.args.change.len c.args.end c.args.change.more 32 2 c.with-sum-in-Handle.result.value c.with_more-in-Handle.result.value ((spans c.args.kind c.args.change c.requires.0).0 ∙ ap changed c.in-Handle.is) ((spans c.args.kind c.args.change c.requires.0).1 ∙ ap (λ k. adds k c.args.change.more) c.in-Handle.is) c.with-sum-in-Handle.ensures c.with_more-in-Handle.ensures

pub returns-in-Map : goal.returns-in-Map
returns-in-Map c = grown-after c.args.sum.value c.args.out.now c.args.change.from c.args.change.len c.args.end c.args.change.more 8 8 c.with-sum-in-Map.result.value c.with_more-in-Map.result.value ((spans c.args.kind c.args.change c.requires.0).0 ∙ ap changed c.in-Map.is) ((spans c.args.kind c.args.change c.requires.0).1 ∙ ap (λ k. adds k c.args.change.more) c.in-Map.is) c.with-sum-in-Map.ensures c.with_more-in-Map.ensures

pub returns-in-Initiator : goal.returns-in-Initiator
returns-in-Initiator c = set_after c.args.sum.value c.args.out.now c.args.change.from c.args.change.len c.args.end c.args.change.more 4 c.with.result.value ((spans c.args.kind c.args.change c.requires.0).0 ∙ (is-value c.args.change.more c.in-Initiator.is).0) ((spans c.args.kind c.args.change c.requires.0).1 ∙ (is-value c.args.change.more c.in-Initiator.is).1) c.with.ensures

pub returns-in-Cell : goal.returns-in-Cell
returns-in-Cell c = set_after c.args.sum.value c.args.out.now c.args.change.from c.args.change.len c.args.end c.args.change.more 2 c.with-in-Cell.result.value ((spans c.args.kind c.args.change c.requires.0).0 ∙ (is-cell c.args.change.more c.in-Cell.is).0) ((spans c.args.kind c.args.change c.requires.0).1 ∙ (is-cell c.args.change.more c.in-Cell.is).1) c.with-in-Cell.ensures

pub returns-in-WindowTarget : goal.returns-in-WindowTarget
returns-in-WindowTarget c = set_after c.args.sum.value c.args.out.now c.args.change.from c.args.change.len c.args.end c.args.change.more 4 c.with-in-WindowTarget.result.value ((spans c.args.kind c.args.change c.requires.0).0 ∙ ap changed c.in-WindowTarget.is) ((spans c.args.kind c.args.change c.requires.0).1 ∙ ap (λ k. adds k c.args.change.more) c.in-WindowTarget.is) c.with-in-WindowTarget.ensures
