-- A property of a run and of the places that it has still to visit: kept by each visit, it holds along the whole walk.
use Rattle.std.specs.Prelude.{if◌then◌else◌}
use mathlib.Core.Path.{◌≡◌, refl, sym, subst}
use mathlib.Core.Logic.{◌⊎◌, inl, inr}
use Prim.Native.Nat.{ℕ}
use mathlib.Core.Bool.{Bool, true, false}
use mathlib.Core.List.Memᴰ
use mathlib.Core.List.{List, [], ◌∷◌, Memᴰ}
use lib.Dec.{eqb}
use Rattle.plan.specs.Sheet.{Outcome, refused, done, ◌then◌}
use Rattle.plan.specs.Visit.{Run, simplify_ir_node_orders, goes, unlink_node, settle}
use Rattle.plan.proofs.Settling.{settled, refusal_in}
use Rattle.plan.specs.Walks.{walk, trace, then_all, trace_by, walk_by}
use Rattle.plan.proofs.Outcomes.{came, both_done}

-- a visit removes the step, or settles it
pub two_ways : (n : ℕ) (r : Run) {r' : Run} → simplify_ir_node_orders n r ≡ done r'
    → ((goes n r ≡ true) × (r' ≡ unlink_node n r)) ⊎ ((goes n r ≡ false) × (r' ≡ settled n r))
unfolding simplify_ir_node_orders settle
two_ways n r {r'} e = by (goes n r) refl e
  where
    by : (b : Bool) → goes n r ≡ b → (if b then done (unlink_node n r) else settle n r) ≡ done r'
        → ((goes n r ≡ true) × (r' ≡ unlink_node n r)) ⊎ ((goes n r ≡ false) × (r' ≡ settled n r))
    by true i e = inl (i, sym (came true (unlink_node n r) 0 e))
    by false i e = inr (i, sym (came (eqb (refusal_in n r) 0) (settled n r) (refusal_in n r) e))

-- of any visit
module _ (visit : ℕ → Run → Outcome Run) (P : List ℕ → Run → Type 0) (keep : (n : ℕ) (ns : List ℕ) (r r' : Run) → P (n ∷ ns) r → visit n r ≡ done r' → P ns r') where
  pub walk_by_keeps : (ns : List ℕ) (r : Run) {r' : Run} → P ns r → walk_by visit ns r ≡ done r' → P [] r'
  unfolding walk_by
  walk_by_keeps [] r p e = subst (P []) (came true r 0 e) p
  walk_by_keeps (n ∷ ns) r p e =
      let (r₁, first, rest) = both_done (visit n r) (λ x. walk_by visit ns x) e in
      walk_by_keeps ns r₁ (keep n ns r r₁ p first) rest

  -- and at each visit, whether or not a later one is refused
  pub trace_by_keeps : (ns : List ℕ) (r : Run) → P ns r → (n : ℕ) (v : Run) → Memᴰ (n, v) (trace_by visit ns r) → (ms : List ℕ) × P (n ∷ ms) v
  unfolding trace_by
  trace_by_keeps [] r p n v m = absurd (Memᴰ.not-nil m)
  trace_by_keeps (k ∷ ns) r p n v m =
      elim (Memᴰ.cases_cons m) [
        | inl i ↦ let at : ℕ × Run → Type 0 = λ (n, v). (ms : List ℕ) × P (n ∷ ms) v in subst at (sym i) (ns, p)
        | inr m' ↦ on (visit k r) (λ q e. keep k ns r q p e) (λ q p' m''. trace_by_keeps ns q p' n v m'') m'
      ]
    where
      on : (o : Outcome Run) → ((q : Run) → o ≡ done q → P ns q) → ((q : Run) → P ns q → Memᴰ (n, v) (trace_by visit ns q) → (ms : List ℕ) × P (n ∷ ms) v)
          → Memᴰ (n, v) (then_all o (λ q. trace_by visit ns q)) → (ms : List ℕ) × P (n ∷ ms) v
      on (refused j) f h m = absurd (Memᴰ.not-nil m)
      on (done q) f h m = h q (f q refl) m

-- of the definition's
module _ (P : List ℕ → Run → Type 0) (keep : (n : ℕ) (ns : List ℕ) (r r' : Run) → P (n ∷ ns) r → simplify_ir_node_orders n r ≡ done r' → P ns r') where
  pub walk_keeps : (ns : List ℕ) (r : Run) {r' : Run} → P ns r → walk ns r ≡ done r' → P [] r'
  walk_keeps = walk_by_keeps simplify_ir_node_orders P keep

  pub trace_keeps : (ns : List ℕ) (r : Run) → P ns r → (n : ℕ) (v : Run) → Memᴰ (n, v) (trace ns r) → (ms : List ℕ) × P (n ∷ ms) v
  trace_keeps = trace_by_keeps simplify_ir_node_orders P keep

-- at each visit of a walk that comes to its end, with what is left of it
pub walk_at : (P : List ℕ → Run → Type 0) → ((n : ℕ) (ns : List ℕ) (r r' : Run) → P (n ∷ ns) r → simplify_ir_node_orders n r ≡ done r' → P ns r')
    → (ns : List ℕ) (r : Run) {r' : Run} → P ns r → walk ns r ≡ done r' → (n : ℕ) (v : Run) → Memᴰ (n, v) (trace ns r)
    → (ms : List ℕ) × P (n ∷ ms) v × (walk (n ∷ ms) v ≡ done r')
unfolding walk_by ◌then◌
walk_at P keep ns r {r'} p e n v m =
    let (ms, both) = trace_keeps (λ ns q. P ns q × (walk ns q ≡ done r')) next ns r (p, e) n v m in (ms, both.0, both.1)
  where
    next : (n : ℕ) (ns : List ℕ) (q q' : Run) → P (n ∷ ns) q × (walk (n ∷ ns) q ≡ done r') → simplify_ir_node_orders n q ≡ done q' → P ns q' × (walk ns q' ≡ done r')
    next n ns q q' (p, e) f = (keep n ns q q' p f, subst (λ (o : Outcome Run). (o then λ x. walk ns x) ≡ done r') f e)
