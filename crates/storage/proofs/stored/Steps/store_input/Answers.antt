use Prim.Native.Nat.{◌+◌, ◌*◌, ◌<◌}
use native.Mathlib.Omega.{arith}
use lib.ListN.{get_or}
use Rattle.storage.proofs.StepLaws.{its_n1}
use Rattle.storage.proofs.StoreLaws.{input_law, input_held}
use Rattle.storage.proofs.stored.Steps.store_input.Goals as goal

pub overflow_add-self : goal.overflow_add-self
overflow_add-self c =
    let s = c.args.self.now in
    omega (arith, (s.held.formed c.args.i c.requires.step).n1, its_n1 s.bytes s.count c.args.i s.held c.requires.step, c.requires.slot)

pub overflow_add-self-2 : goal.overflow_add-self-2
overflow_add-self-2 c =
    let s = c.args.self.now in
    omega (arith, (s.held.formed c.args.i c.requires.step).n1, its_n1 s.bytes s.count c.args.i s.held c.requires.step, c.requires.slot, s.held.few)

pub bounds-self-i : goal.bounds-self-i
bounds-self-i c =
    let s = c.args.self.now in
    omega (arith, (s.held.formed c.args.i c.requires.step).n1, its_n1 s.bytes s.count c.args.i s.held c.requires.step, c.requires.slot, s.held.few)

pub invariant_of-self : goal.invariant_of-self
invariant_of-self c =
    let s = c.args.self.now in
    let there : c.args.slot < get_or s.bytes (c.args.i * 32 + 4) 0 = omega (arith, its_n1 s.bytes s.count c.args.i s.held c.requires.step, c.requires.slot) in
    record { held = input_held s.bytes s.count c.args.i s.held c.requires.step c.args.slot c.args.input there }

pub returns-clause-stored : goal.returns-clause-stored
returns-clause-stored c =
    let s = c.args.self.now in
    let there : c.args.slot < get_or s.bytes (c.args.i * 32 + 4) 0 = omega (arith, its_n1 s.bytes s.count c.args.i s.held c.requires.step, c.requires.slot) in
    input_law s.bytes s.count c.args.i s.held c.requires.step c.args.slot c.args.input there
