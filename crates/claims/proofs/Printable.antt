-- What a run prints stays small: the options, children and entries of its records, and the numbers of its edges.
use Rattle.std.specs.Prelude.{if◌then◌else◌}
use mathlib.Core.Path.{◌≡◌, refl, ap, sym, subst}
use mathlib.Core.Logic.{inl, inr}
use Prim.Native.Nat.{ℕ, suc, ◌≤◌, ◌<◌}
use native.Mathlib.Omega.{arith}
use mathlib.Core.Bool.{Bool, true, false}
use mathlib.Core.Option.{Option, none}
use mathlib.Core.List.{List, [], ◌∷◌, ◌++◌}
use lib.ListN.{length, length-set}
use Rattle.plan.specs.declared.ir.IR.{IR}
use Rattle.plan.specs.Kinds.{same_ir}
use Rattle.plan.specs.Sheet.{Expr, Step, done, no_expr, no_step, expr_at, step_at}
use Rattle.plan.specs.Graph.{Edge}
use Rattle.plan.specs.declared.rules.Options.{Options}
use Rattle.plan.specs.Visit.{Run, implode, implode_over, imploded, with_implodes, looks_of, looked_in, options_of, with_options, out_edge, no_edge, is_into, is_out_of, relinked, with_input, unlink_node, simplify_ir_node_orders, ruling_of, settled_by}
use Rattle.plan.proofs.Settling.{settled}
use Rattle.claims.specs.Limits.{ShortEdge}
use Rattle.claims.proofs.Walks.{two_ways}
use Rattle.claims.proofs.Every.{Every, every_set, every_append, every_map}
use Rattle.claims.proofs.Changes.{Changes, no_change, takes_input, goes_off}
use Rattle.claims.proofs.VisitsKept.{visit_visits}
use Rattle.claims.proofs.Rules.{Small, AfterRule, ruled_by}
use Rattle.claims.proofs.VisitLooks.{Sound, looks_change}

-- Records ----------------------------------------------------------------------------------------------------------------------

pub record Slim (e : Expr) : Type 0 where
  pub option : e.option ≤ 63
  pub few : length e.children ≤ 8

abbrev pub AllSlim : List Expr → Type 0
AllSlim = Every Slim no_expr

slim_changed : {end es : List Expr} → Changes end es → AllSlim es → AllSlim end
slim_changed no_change h = h
slim_changed (takes_input {es} p t c) h = slim_changed c (every_set Slim no_expr es p _ h (h _))
slim_changed (goes_off {es} p t c) h = slim_changed c (every_set Slim no_expr es p _ h (record { option = omega arith; few = (h p).few }))

-- a GroupBy's Implodes
record ImplodedSlim (qs : List ℕ) (es : List Expr) (qs' : List ℕ) (es' : List Expr) : Type 0 where
  slim : AllSlim es → AllSlim es'
  same_length : length qs' ≡ length qs

slim_implode : (q : ℕ) (es : List Expr) → AllSlim es → AllSlim (implode q es).1
unfolding implode
slim_implode q es h = by (expr_at es q).scalar
  where
    by : (b : Bool) → let r : ℕ × List Expr = if b then (q, es) else (length es, es ++ (implode_over q ∷ [])) in AllSlim r.1
    by true = h
    by false = every_append Slim no_expr es (implode_over q) h (record { option = omega arith; few = omega arith })

slim_imploded : (qs : List ℕ) (es : List Expr) → ImplodedSlim qs es (imploded qs es).0 (imploded qs es).1
unfolding imploded
slim_imploded [] es = record { slim = λ h. h; same_length = refl }
slim_imploded (q ∷ qs) es =
    let a = slim_imploded qs (implode q es).1 in
    record { slim = λ h. a.slim (slim_implode q es h); same_length = ap suc a.same_length }

slim_started : (s : Step) (es : List Expr) → ImplodedSlim s.aggs es (with_implodes s es).0 (with_implodes s es).1
unfolding with_implodes
slim_started s es = by (same_ir s.kind IR.GroupBy)
  where
    by : (b : Bool) → let r : List ℕ × List Expr = if b then imploded s.aggs es else (s.aggs, es) in ImplodedSlim s.aggs es r.0 r.1
    by true = slim_imploded s.aggs es
    by false = record { slim = λ h. h; same_length = refl }

-- Steps ------------------------------------------------------------------------------------------------------------------------

pub record Plain (s : Step) : Type 0 where
  pub small : Small (options_of s)
  pub few_inputs : length s.inputs ≤ 8
  pub few_exprs : length s.exprs ≤ 8
  pub few_aggs : length s.aggs ≤ 8
  pub inputs : Every (λ m. m < 32) 0 s.inputs

abbrev pub AllPlain : List Step → Type 0
AllPlain = Every Plain no_step

plain_ruled : (s : Step) (o : Options) → AfterRule (options_of s) o → Plain s → Plain (with_options o s)
plain_ruled s o k p =
    let small = k.small p.small in
    record {
      small = record { a = small.a; b = small.b; c = small.c };
      few_inputs = p.few_inputs;
      few_exprs = p.few_exprs;
      few_aggs = p.few_aggs;
      inputs = p.inputs;
    }

plain_with_input : (k input : ℕ) (s : Step) → input < 32 → Plain s → Plain (with_input k input s)
plain_with_input k input s h p =
    record {
      small = record { a = p.small.a; b = p.small.b; c = p.small.c };
      few_inputs = simp length-set p.few_inputs;
      few_exprs = p.few_exprs;
      few_aggs = p.few_aggs;
      inputs = every_set (λ m. m < 32) 0 s.inputs k input p.inputs h;
    }

-- The run ----------------------------------------------------------------------------------------------------------------------

pub record Printable (r : Run) : Type 0 where
  pub exprs : AllSlim r.arena
  pub steps : AllPlain r.steps
  pub edges : Every ShortEdge no_edge r.edges
  pub removed : length r.removed ≤ r.tally.visits

relinked_short : (n : ℕ) (from : Option ℕ) (d : Edge) → ShortEdge d → ShortEdge (relinked n from d)
relinked_short n from d k = by (is_into n d) (is_out_of n d)
  where
    short : (p : Option ℕ) (u : Bool) → ShortEdge (record { consumer = d.consumer; slot = d.slot; producer = p; unordered = u })
    short p u = record { consumer = k.consumer; slot = k.slot }

    by : (a b : Bool)
        → ShortEdge
        (if a then record { consumer = d.consumer; slot = d.slot; producer = none; unordered = true }
        else if b then record { consumer = d.consumer; slot = d.slot; producer = from; unordered = d.unordered }
        else d)
    by true b = short none true
    by false true = short from d.unordered
    by false false = k

module _ (r : Run) (k : Printable r) (n : ℕ) where
  printable_unlinked : Printable (unlink_node n r)
  unfolding unlink_node
  printable_unlinked =
      let c = (out_edge n r.edges).consumer in
      record {
        exprs = k.exprs;
        steps = every_set Plain no_step r.steps c _ k.steps (plain_with_input _ _ (step_at r.steps c) ((k.steps n).inputs 0) (k.steps c));
        edges = every_map ShortEdge no_edge (relinked n _) r.edges k.edges (relinked_short n _);
        removed = omega (arith, k.removed);
      }

  printable_settled : Sound r → Printable (settled n r)
  unfolding settled_by looked_in ruling_of looks_of
  printable_settled sound =
      let s = step_at r.steps n in
      let l = looked_in n r in
      let i = slim_started s r.arena in
      let p = k.steps n in
      let started : Plain l.step =
      record {
        small = record { a = p.small.a; b = p.small.b; c = p.small.c };
        few_inputs = p.few_inputs;
        few_exprs = p.few_exprs;
        few_aggs = omega (arith, p.few_aggs, i.same_length);
        inputs = p.inputs;
      } in
      record {
        exprs = slim_changed (looks_change r sound n) (i.slim k.exprs);
        steps =
            every_set Plain no_step r.steps n _ k.steps
            (plain_ruled l.step _ (ruled_by n r) started);
        edges = every_map ShortEdge no_edge _ r.edges k.edges (λ d h. record { consumer = h.consumer; slot = h.slot });
        removed = omega (arith, k.removed, visit_visits n r);
      }

pub printable_visit : (n : ℕ) (r r' : Run) → Sound r → Printable r → simplify_ir_node_orders n r ≡ done r' → Printable r'
printable_visit n r r' sound k e =
    elim (two_ways n r e) [
      | inl (_, i) ↦ subst Printable (sym i) (printable_unlinked r k n)
      | inr (_, i) ↦ subst Printable (sym i) (printable_settled r k n sound)
    ]
