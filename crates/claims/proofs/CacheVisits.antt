-- A visit to a Cache goes by its edges alone: it reads nothing of its own line but that it is a Cache, and changes no step. So a visit to
-- any line of an id is one to its key.
use Rattle.std.specs.Prelude.{if◌then◌else◌}
use mathlib.Core.Path.{◌≡◌, refl, ap, sym, ◌∙◌}
use Prim.Native.Nat.{ℕ}
use mathlib.Core.Bool.{false, ◌&&◌, not}
use mathlib.Core.List.{List, [], ◌∷◌, map}
use lib.ListN.{set}
use lib.Seq.{set-get_or}
use Rattle.plan.specs.declared.tally.Tally.{Tally}
use Rattle.plan.specs.Tally.{visit_more}
use Rattle.plan.specs.declared.ir.IR.{IR}
use Rattle.plan.specs.declared.rules.Around.{Around}
use Rattle.plan.specs.declared.rules.Loosened.{Loosened}
use Rattle.plan.specs.declared.rules.Observable.{Observable}
use Rattle.plan.specs.declared.rules.Ruled.{Ruled}
use Rattle.plan.specs.Kinds.{same_ir}
use Rattle.plan.specs.FunctionIR.{rust_functions}
use Rattle.plan.specs.Lists.{yes?}
use Rattle.plan.specs.Sheet.{Expr, Step, done, no_step, step_at}
use Rattle.plan.specs.Look.{look_along, look_again, simplify_projected_exprs}
use Rattle.plan.specs.Visit.{Run, Looked, options_of, with_options, out_edge, around, arm, rule, loosened, join_fails, sink_fails, with_implodes, looks_of, looked_in, ruling_of, goes, refusal_number, settled_by, settle, simplify_ir_node_orders}
use Rattle.plan.proofs.Settling.{ruling, ruled_step, settled, refusal_in}

-- what its rule loosens: into it, where it is ordered and all that leave it are not; all that leave it, where it is unordered
abbrev pub cache_loosens : Around → Loosened
cache_loosens e = record { in0 = not e.in0 && e.outs; later = false; out = e.in0 }

-- a Cache line: it has no expressions
abbrev plain : Step → Step
plain s = record { kind = IR.Cache; a = s.a; b = s.b; c = s.c; inputs = s.inputs; exprs = []; aggs = [] }

module _ (s : Step) (e : Around) (es : List Expr) (tally : Tally) where
  arena_kept : (looks_of (plain s) e es tally).end.expr_arena ≡ es
  unfolding looks_of with_implodes simplify_projected_exprs look_along look_again
  arena_kept = refl

  tally_kept : (looks_of (plain s) e es tally).end.tally ≡ tally
  unfolding looks_of with_implodes simplify_projected_exprs look_along look_again
  tally_kept = refl

  step_kept : (looks_of (plain s) e es tally).step ≡ plain s
  unfolding looks_of with_implodes
  step_kept = refl

ruled_cache : (s : Step) (e : Around) (o : Observable)
    → rule rust_functions (options_of (plain s)) e o ≡ record { options = options_of (plain s); loosened = cache_loosens e }
unfolding arm
ruled_cache s e o = refl

module _ (n : ℕ) (r : Run) (k : (step_at r.steps n).kind ≡ IR.Cache) (x : (step_at r.steps n).exprs ≡ []) (g : (step_at r.steps n).aggs ≡ []) where
  abbrev s : Step
  s = step_at r.steps n

  abbrev edges : Around
  edges = around n r.edges

  is_plain : s ≡ plain s
  is_plain = λ i. record { kind = k i; a = s.a; b = s.b; c = s.c; inputs = s.inputs; exprs = x i; aggs = g i }

  looked : looked_in n r ≡ looks_of (plain s) edges r.arena r.tally
  unfolding looked_in
  looked = ap (λ (y : Step). looks_of y edges r.arena r.tally) is_plain

  stepped : (looked_in n r).step ≡ plain s
  stepped = ap (λ (l : Looked). l.step) looked ∙ step_kept s edges r.arena r.tally

  ruled : ruling n r ≡ record { options = options_of (plain s); loosened = cache_loosens edges }
  unfolding ruling_of looked_in looks_of
  ruled = ap (λ (y : Step). rule rust_functions (options_of y) edges (looked_in n r).observable) stepped ∙ ruled_cache s edges (looked_in n r).observable

  same_step : ruled_step n r ≡ s
  same_step = ap (λ (y : Ruled). with_options y.options (looked_in n r).step) ruled ∙ ap (with_options (options_of (plain s))) stepped ∙ sym is_plain

  passes : refusal_in n r ≡ 0
  unfolding refusal_number
  passes = ap (λ (y : Step). let o = (looked_in n r).observable in if join_fails (options_of y) o then 10 else if sink_fails (options_of y) o then 11 else 0) stepped

  stays : goes n r ≡ false
  unfolding goes
  stays = ap (λ (y : IR). same_ir y IR.Sort && (out_edge n r.edges).unordered && not (yes? s.b)) k

  abbrev visited : Run
  visited = record {
    arena = r.arena;
    steps = r.steps;
    edges = map (loosened n (cache_loosens edges)) r.edges;
    back = n ∷ r.back;
    removed = r.removed;
    tally = visit_more r.tally;
  }

  settled_cache : settled n r ≡ visited
  unfolding settled_by
  settled_cache =
      let es : (looked_in n r).end.expr_arena ≡ r.arena = ap (λ (l : Looked). l.end.expr_arena) looked ∙ arena_kept s edges r.arena r.tally in
      let ts : (looked_in n r).end.tally ≡ r.tally = ap (λ (l : Looked). l.end.tally) looked ∙ tally_kept s edges r.arena r.tally in
      let ss : set r.steps n (ruled_step n r) ≡ r.steps = ap (set r.steps n) same_step ∙ set-get_or r.steps n no_step in
      λ i. record {
        arena = es i;
        steps = ss i;
        edges = map (loosened n (ruled i).loosened) r.edges;
        back = n ∷ r.back;
        removed = r.removed;
        tally = visit_more (ts i);
      }

  -- n is named only as the key of its edges
  pub visit_cache : simplify_ir_node_orders n r ≡ done visited
  unfolding simplify_ir_node_orders settle
  visit_cache = rw (stays, passes, settled_cache)
