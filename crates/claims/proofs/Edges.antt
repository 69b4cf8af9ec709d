-- Edges: their ends, and what a visit does to those of a step.
use Rattle.std.specs.Prelude.{if◌then◌else◌}
use mathlib.Core.Path.{◌≡◌, refl, ap, sym, ◌∙◌, subst}
use mathlib.Core.Logic.{inl, inr, ◌≢◌}
use Prim.Native.Nat.{ℕ, zero, suc, ◌+◌, ◌≤◌, ◌<◌}
use native.Mathlib.Omega.{arith}
use native.Mathlib.Nat.{not-suc-le-zero}
use native.Mathlib.Decide.{dec_lt}
use mathlib.Core.Bool.{Bool, true, false, ◌&&◌, ◌||◌}
use mathlib.Core.Option.{Option, none, some}
use mathlib.Core.List.{List, [], ◌∷◌, map, Memᴰ}
use lib.Dec.{T, eqb, eqb→eq, eqb_refl}
use lib.ListN.{length, get_or, get_or-eq_default}
use Rattle.plan.specs.Lists.{select, sum}
use Rattle.plan.specs.Sheet.{done}
use Rattle.plan.specs.Graph.{Edge}
use Rattle.plan.specs.declared.rules.Loosened.{Loosened}
use Rattle.plan.specs.Visit.{Run, simplify_ir_node_orders, unlink_node, loosened, relinked, is_into, is_out_of, no_edge, out_edge, in_edge, settled_by}
use Rattle.plan.proofs.Settling.{ruling}
use Rattle.plan.specs.Walks.{walk}
use Rattle.claims.specs.Demand3.{leaving_among, UnorderedAt}
use Rattle.claims.proofs.Walks.{two_ways, walk_keeps}
use Rattle.plan.proofs.Counts.{false_of, T_of, mem_at, count}

abbrev pub edge_at : ℕ → Run → Edge
edge_at k r = get_or r.edges k no_edge

abbrev pub outs : ℕ → List Edge → ℕ
outs n ds = count (is_out_of n) ds

abbrev pub intos : ℕ → List Edge → ℕ
intos n ds = count (is_into n) ds

-- Ends --------------------------------------------------------------------------------------------------------------------------

pub producer_of : (n : ℕ) (d : Edge) → T (is_out_of n d) → d.producer ≡ some n
producer_of n d t = by d.producer t
  where
    by : (p : Option ℕ) → T (elim p [ none ↦ false | some m ↦ eqb m n ]) → p ≡ some n
    by none t = absurd t
    by (some m) t = ap some (eqb→eq m n t)

pub is_producer : (n : ℕ) (d : Edge) → d.producer ≡ some n → T (is_out_of n d)
is_producer n d e = subst (λ (p : Option ℕ). T (elim p [ none ↦ false | some m ↦ eqb m n ])) (sym e) (eqb_refl n)

pub same_some : {a b : ℕ} → some a ≡ some b → a ≡ b
same_some e = cc

pub other_producer : (n m : ℕ) (d : Edge) → d.producer ≡ some m → m ≢ n → is_out_of n d ≡ false
other_producer n m d e h = false_of (is_out_of n d) (λ t. h (same_some (sym e ∙ producer_of n d t)))

-- The edge leaving a step: `out_edge` has the edge, `leaving_among` its number ----------------------------------------------------

pub out_edge_at : (n : ℕ) (ds : List Edge) → get_or ds (leaving_among n ds) no_edge ≡ out_edge n ds
unfolding leaving_among out_edge select
out_edge_at n [] = refl
out_edge_at n (d ∷ ds) = by (is_out_of n d) (out_edge_at n ds)
  where
    by : (b : Bool) → get_or ds (leaving_among n ds) no_edge ≡ get_or (select (is_out_of n) ds) 0 no_edge
        → get_or (d ∷ ds) (elim b [ true ↦ 0 | false ↦ suc (leaving_among n ds) ]) no_edge
        ≡ get_or (if b then d ∷ select (is_out_of n) ds else select (is_out_of n) ds) 0 no_edge
    by true e = refl
    by false e = e

pub leaving_there : (n : ℕ) (ds : List Edge) → 1 ≤ outs n ds → leaving_among n ds < length ds
unfolding leaving_among sum
leaving_there n [] h = absurd (not-suc-le-zero h)
leaving_there n (d ∷ ds) h = by (is_out_of n d) h (λ k. leaving_there n ds k)
  where
    by : (b : Bool) → 1 ≤ (if b then 1 else 0) + outs n ds → (1 ≤ outs n ds → leaving_among n ds < length ds)
        → elim b [ true ↦ 0 | false ↦ suc (leaving_among n ds) ] < length (d ∷ ds)
    by true h rec = omega arith
    by false h rec = omega (arith, rec (omega arith))

pub leaving_out : (n : ℕ) (ds : List Edge) → leaving_among n ds < length ds → T (is_out_of n (get_or ds (leaving_among n ds) no_edge))
unfolding leaving_among
leaving_out n [] h = absurd (not-suc-le-zero h)
leaving_out n (d ∷ ds) h = by (is_out_of n d) refl h (λ k. leaving_out n ds k)
  where
    by : (b : Bool) → is_out_of n d ≡ b → elim b [ true ↦ 0 | false ↦ suc (leaving_among n ds) ] < length (d ∷ ds)
        → (leaving_among n ds < length ds → T (is_out_of n (get_or ds (leaving_among n ds) no_edge)))
        → T (is_out_of n (get_or (d ∷ ds) (elim b [ true ↦ 0 | false ↦ suc (leaving_among n ds) ]) no_edge))
    by true e h rec = T_of (is_out_of n d) e
    by false e h rec = rec (omega arith)

pub out_edge_there : (n : ℕ) (ds : List Edge) → 1 ≤ outs n ds → Memᴰ (out_edge n ds) ds × T (is_out_of n (out_edge n ds))
out_edge_there n ds h =
    let k = leaving_there n ds h in
    subst (λ (d : Edge). Memᴰ d ds × T (is_out_of n d)) (out_edge_at n ds) (mem_at ds (leaving_among n ds) no_edge k, leaving_out n ds k)

pub in_edge_there : (n : ℕ) (ds : List Edge) → 1 ≤ intos n ds → Memᴰ (in_edge n ds) ds × T (is_into n (in_edge n ds))
unfolding in_edge select sum
in_edge_there n [] h = absurd (not-suc-le-zero h)
in_edge_there n (d ∷ ds) h = by (is_into n d) refl h (λ k. in_edge_there n ds k)
  where
    by : (b : Bool) → is_into n d ≡ b → 1 ≤ (if b then 1 else 0) + intos n ds
        → (1 ≤ intos n ds → Memᴰ (get_or (select (is_into n) ds) 0 no_edge) ds × T (is_into n (get_or (select (is_into n) ds) 0 no_edge)))
        → let x = get_or (if b then d ∷ select (is_into n) ds else select (is_into n) ds) 0 no_edge in Memᴰ x (d ∷ ds) × T (is_into n x)
    by true e h rec = (Memᴰ.head refl, T_of (is_into n d) e)
    by false e h rec = let (m, t) = rec (omega arith) in (Memᴰ.tail m, t)

-- Relinking: an edge into the removed sort, the edge that left it, and any other --------------------------------------------------

abbrev pub cut : Edge → Edge
cut d = record { consumer = d.consumer; slot = d.slot; producer = none; unordered = true }

abbrev pub led : Option ℕ → Edge → Edge
led from d = record { consumer = d.consumer; slot = d.slot; producer = from; unordered = d.unordered }

pub three_ways : (n : ℕ) (from : Option ℕ) (Q : Edge → Type 0) (d : Edge) → (T (is_into n d) → Q (cut d)) → (is_into n d ≡ false → T (is_out_of n d) → Q (led from d))
    → (is_into n d ≡ false → is_out_of n d ≡ false → Q d) → Q (relinked n from d)
three_ways n from Q d f g h = by (is_into n d) (is_out_of n d) refl refl
  where
    by : (b c : Bool) → is_into n d ≡ b → is_out_of n d ≡ c → Q (if b then cut d else if c then led from d else d)
    by true c i j = f (T_of (is_into n d) i)
    by false true i j = g i (T_of (is_out_of n d) j)
    by false false i j = h i j

-- A visit, edge by edge -----------------------------------------------------------------------------------------------------------

pub at_map : (f : Edge → Edge) (l : List Edge) (k : ℕ) → k < length l → get_or (map f l) k no_edge ≡ f (get_or l k no_edge)
at_map f [] k h = absurd (not-suc-le-zero h)
at_map f (d ∷ l) zero h = refl
at_map f (d ∷ l) (suc k) h = at_map f l k (omega arith)

-- the edge is relinked, or loosened
pub visit_edge : (Q : Edge → Type 0) (n : ℕ) (r : Run) {r' : Run} → simplify_ir_node_orders n r ≡ done r' → (k : ℕ) → k < length r.edges
    → ((from : Option ℕ) → Q (relinked n from (edge_at k r))) → ((l : Loosened) → Q (loosened n l (edge_at k r))) → Q (edge_at k r')
unfolding unlink_node settled_by
visit_edge Q n r e k h f g =
    elim (two_ways n r e) [
      | inl w ↦ subst (λ (q : Run). Q (edge_at k q)) (sym w.1) (rw at_map (f (in_edge n r.edges).producer))
      | inr w ↦ subst (λ (q : Run). Q (edge_at k q)) (sym w.1) (rw at_map (g (ruling n r).loosened))
    ]

-- n is neither end of d
pub record Apart (n : ℕ) (d : Edge) : Type 0 where
  pub into : is_into n d ≡ false
  pub out : is_out_of n d ≡ false

-- a visit leaves alone an edge at neither of whose ends it is
pub visit_apart : (n : ℕ) (r : Run) {r' : Run} → simplify_ir_node_orders n r ≡ done r' → (k : ℕ) → k < length r.edges
    → Apart n (edge_at k r) → edge_at k r' ≡ edge_at k r
visit_apart n r e k h a =
    let d = edge_at k r in
    visit_edge (λ (x : Edge). x ≡ d) n r e k h (λ input. rw (a.into, a.out, relinked, if◌then◌else◌)) (λ l. same l)
  where
    or_nothing : (a b c : Bool) → a || (false && b) || (false && c) ≡ a
    or_nothing true b c = refl
    or_nothing false b c = refl

    same : (l : Loosened) → loosened n l (edge_at k r) ≡ edge_at k r
    same l =
        let d = edge_at k r in
        let u : (loosened n l d).unordered ≡ d.unordered = rw (a.into, a.out) (or_nothing d.unordered (if eqb d.slot 0 then l.in0 else l.later) l.out) in
        λ i. record { consumer = d.consumer; slot = d.slot; producer = d.producer; unordered = u i }

-- An unordered edge stays unordered -------------------------------------------------------------------------------------------------

-- and it is there
pub unordered_there : (k : ℕ) (r : Run) → UnorderedAt k r → k < length r.edges
unordered_there k r t = by (dec_lt k (length r.edges))
  where
    by : Dec (k < length r.edges) → k < length r.edges
    by (yes h) = h
    by (no h) = absurd (subst (λ (d : Edge). T d.unordered) (get_or-eq_default r.edges no_edge (omega arith)) t)

visit_looser : (n : ℕ) (r r' : Run) → simplify_ir_node_orders n r ≡ done r' → (k : ℕ) → UnorderedAt k r → UnorderedAt k r'
visit_looser n r r' e k t =
    let d = edge_at k r in
    visit_edge (λ (x : Edge). T x.unordered) n r e k (unordered_there k r t)
    (λ input. three_ways n input (λ (x : Edge). T x.unordered) d (λ u. tt) (λ i u. t) (λ i j. t))
    (λ l. or_left d.unordered (is_into n d && (if eqb d.slot 0 then l.in0 else l.later)) (is_out_of n d && l.out) t)
  where
    or_left : (a b c : Bool) → T a → T (a || b || c)
    or_left true b c t = tt
    or_left false b c t = absurd t

pub walk_looser : (ns : List ℕ) (r : Run) {r' : Run} → walk ns r ≡ done r' → (k : ℕ) → UnorderedAt k r → UnorderedAt k r'
walk_looser ns r e k t = walk_keeps (λ _ q. UnorderedAt k q) (λ n ns q q' u v. visit_looser n q q' v k u) ns r t e
