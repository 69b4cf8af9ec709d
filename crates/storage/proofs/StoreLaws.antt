-- What storing does to the steps as the definition has them.
use mathlib.Core.Path.{◌≡◌, ap, ◌∙◌, subst}
use Prim.Native.Nat.{ℕ, ◌+◌, ◌*◌, ◌≤◌, ◌<◌}
use native.Mathlib.Omega.{arith}
use mathlib.Core.List.{List}
use lib.ListN.{length, get_or, set, length-set}
use Rattle.plan.specs.declared.ir.IR.{IR}
use Rattle.plan.specs.Kinds.{ir, ir_number}
use Rattle.plan.proofs.KindNumbers.{ir_back}
use Rattle.plan.specs.Sheet.{Step, step_at}
use Rattle.storage.specs.Stored.{stored_steps, StepsHeld}
use Rattle.storage.proofs.Changes.{formed_still, input_stored, agg_stored, options_stored, formed_options}
use Rattle.plan.specs.Visit.{with_input, with_aggs, with_options}
use Rattle.plan.specs.declared.rules.Options.{Options}

module _ (bytes : List ℕ) (n i : ℕ) (held : StepsHeld bytes n) (here : i < n) where
  room : n * 32 ≤ length bytes
  room = omega (arith, held.few, held.size)

  module _ (s v : ℕ) (l : s < get_or bytes (i * 32 + 4) 0) where
    pub input_law : stored_steps (set bytes (i * 32 + (7 + s)) v) n ≡ set (stored_steps bytes n) i (with_input s v (step_at (stored_steps bytes n) i))
    input_law = input_stored bytes n i room held.formed here s v l

    pub input_held : StepsHeld (set bytes (i * 32 + (7 + s)) v) n
    input_held =
        let few = (held.formed i here).n1 in
        record {
          few = held.few;
          size = length-set bytes (i * 32 + (7 + s)) v ∙ held.size;
          formed =
              λ j q.
              formed_still bytes i j (7 + s) v (omega arith) (λ e. omega (arith, e)) (λ e. omega (arith, e)) (λ e. omega (arith, e)) (λ _ e. absurd (omega (arith, e)))
              (omega (arith, held.few, held.size)) (held.formed j q);
        }

  module _ (k v p : ℕ) (l : k < get_or bytes (i * 32 + 6) 0) (place : p ≡ i * 32 + (7 + (get_or bytes (i * 32 + 4) 0 + get_or bytes (i * 32 + 5) 0 + k))) where
    pub agg_law : stored_steps (set bytes p v) n
        ≡ set (stored_steps bytes n) i (with_aggs (set (step_at (stored_steps bytes n) i).aggs k v) (step_at (stored_steps bytes n) i))
    agg_law = agg_stored bytes n i room held.formed here k v p l place

    pub agg_held : StepsHeld (set bytes p v) n
    agg_held =
        let f = held.formed i here in
        let q = 7 + (get_or bytes (i * 32 + 4) 0 + get_or bytes (i * 32 + 5) 0 + k) in
        rw place
        (record {
          few = held.few;
          size = length-set bytes (i * 32 + q) v ∙ held.size;
          formed =
              λ j h.
              formed_still bytes i j q v (omega (arith, f.n1, f.n2, f.n3)) (λ e. omega (arith, e)) (λ e. omega (arith, e)) (λ e. omega (arith, e)) (λ _ e. absurd (omega (arith, e)))
              (omega (arith, held.few, held.size, f.n1, f.n2, f.n3)) (held.formed j h);
        })

  module _ (r : Options) (k : ℕ) (kind : k ≡ ir_number r.kind) (small : k < 19) where
    first : i * 32 + 0 ≡ i * 32
    first = omega arith

    -- the bytes with the kind at p
    stored_at : ℕ → List ℕ
    stored_at p = set (set (set (set bytes p k) (i * 32 + 1) r.a) (i * 32 + 2) r.b) (i * 32 + 3) r.c

    pub options_law :
        stored_steps (set (set (set (set bytes (i * 32) k) (i * 32 + 1) r.a) (i * 32 + 2) r.b) (i * 32 + 3) r.c) n
        ≡ set (stored_steps bytes n) i (with_options r (step_at (stored_steps bytes n) i))
    unfolding stored_at
    options_law =
        let s : Step = step_at (stored_steps bytes n) i in
        subst (λ (p : ℕ). stored_steps (stored_at p) n ≡ set (stored_steps bytes n) i (with_options r s)) first
        (options_stored bytes n i room held.formed here k r.a r.b r.c small
        ∙ ap
        (λ (x : IR).
        set (stored_steps bytes n) i
        (record { kind = x; a = r.a; b = r.b; c = r.c; inputs = s.inputs; exprs = s.exprs; aggs = s.aggs }))
        (ap ir kind ∙ ir_back r.kind))

    pub options_held : StepsHeld (set (set (set (set bytes (i * 32) k) (i * 32 + 1) r.a) (i * 32 + 2) r.b) (i * 32 + 3) r.c) n
    unfolding stored_at
    options_held =
        subst (λ (p : ℕ). StepsHeld (stored_at p) n) first
        (record {
          few = held.few;
          size = simp length-set held.size;
          formed = formed_options bytes n i room held.formed here k r.a r.b r.c small;
        })
