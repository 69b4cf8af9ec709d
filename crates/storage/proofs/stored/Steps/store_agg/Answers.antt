use mathlib.Core.Path.{◌≡◌}
use Prim.Native.Nat.{ℕ, ◌+◌, ◌*◌, ◌<◌}
use native.Mathlib.Omega.{arith}
use lib.ListN.{length, get_or}
use Rattle.plan.specs.Sheet.{step_at}
use Rattle.storage.specs.declared.stored.Steps.{Steps}
use Rattle.storage.specs.Held.{steps_in}
use Rattle.storage.proofs.StepLaws.{its_n3}
use Rattle.storage.proofs.StoreLaws.{agg_law, agg_held}
use Rattle.storage.proofs.stored.Steps.store_agg.Goals as goal

-- where the entry stands, and that it is within the line
record Place (s : Steps) (i k n1 n2 : ℕ) : Type 0 where
  there : k < get_or s.bytes (i * 32 + 6) 0
  is : i * 32 + (7 + (n1 + n2 + k)) ≡ i * 32 + (7 + (get_or s.bytes (i * 32 + 4) 0 + get_or s.bytes (i * 32 + 5) 0 + k))
  within : 7 + (n1 + n2 + k) < 32
  few : i < 32

place : (s : Steps) (i k n1 n2 : ℕ) → i < s.count → k < length (step_at (steps_in s) i).aggs → n1 ≡ get_or s.bytes (i * 32 + 4) 0 → n2 ≡ get_or s.bytes (i * 32 + 5) 0 → Place s i k n1 n2
place s i k n1 n2 step entry p q =
    let f = s.held.formed i step in
    let there : k < get_or s.bytes (i * 32 + 6) 0 = omega (arith, its_n3 s.bytes s.count i s.held step, entry) in
    record { there = there; is = omega (arith, p, q); within = omega (arith, f.n1, f.n2, f.n3, p, q); few = omega (arith, s.held.few) }

pub overflow_add-self-2 : goal.overflow_add-self-2
overflow_add-self-2 c = let p = place c.args.self.now c.args.i c.args.k _ _ c.requires.step c.requires.entry c.from-n1.ensures c.from-n2.ensures in omega (arith, p.within)

pub overflow_add-self-3 : goal.overflow_add-self-3
overflow_add-self-3 c = let p = place c.args.self.now c.args.i c.args.k _ _ c.requires.step c.requires.entry c.from-n1.ensures c.from-n2.ensures in omega (arith, p.within)

pub overflow_add-self-4 : goal.overflow_add-self-4
overflow_add-self-4 c = let p = place c.args.self.now c.args.i c.args.k _ _ c.requires.step c.requires.entry c.from-n1.ensures c.from-n2.ensures in omega (arith, p.within, p.few)

pub bounds-self-b-3 : goal.bounds-self-b-3
bounds-self-b-3 c = let p = place c.args.self.now c.args.i c.args.k _ _ c.requires.step c.requires.entry c.from-n1.ensures c.from-n2.ensures in omega (arith, p.within, p.few)

pub invariant_of-self : goal.invariant_of-self
invariant_of-self c =
    let s = c.args.self.now in
    let p = place s c.args.i c.args.k _ _ c.requires.step c.requires.entry c.from-n1.ensures c.from-n2.ensures in
    record { held = agg_held s.bytes s.count c.args.i s.held c.requires.step c.args.k c.args.agg _ p.there p.is }

pub returns-clause-stored : goal.returns-clause-stored
returns-clause-stored c =
    let s = c.args.self.now in
    let p = place s c.args.i c.args.k _ _ c.requires.step c.requires.entry c.from-n1.ensures c.from-n2.ensures in
    agg_law s.bytes s.count c.args.i s.held c.requires.step c.args.k c.args.agg _ p.there p.is
