-- A plan with one line for each key: a Cache line that is no key stands empty, and namings go by key. The graph of a plan is that of its
-- merged plan, line by line.
use Rattle.std.specs.Prelude.{if◌then◌else◌}
use mathlib.Core.Path.{◌≡◌, refl, ap, ap₂, sym, ◌∙◌, subst}
use mathlib.Core.Logic.{◌≢◌}
use Prim.Native.Nat.{ℕ, zero, suc, ◌+◌, ◌-◌, ◌≤◌, ◌<◌}
use native.Mathlib.Omega.{arith}
use native.Mathlib.Nat.{not-suc-le-zero}
use native.Mathlib.Decide.{dec_lt}
use mathlib.Core.Bool.{Bool, true, false, ◌&&◌, ◌||◌, not}
use mathlib.Core.Option.{some}
use mathlib.Core.List.{List, [], ◌∷◌, ◌++◌, map, map-append, reverse, reverse-cons, append-nil, append_assoc, Memᴰ}
use lib.Dec.{T, eqb, eqb→eq}
use lib.ListN.{length, get_or, length-append, length-map, get_or-eq_default}
use Rattle.plan.specs.declared.ir.IR.{IR}
use Rattle.plan.specs.Kinds.{ir_number, same_ir}
use Rattle.plan.specs.Lists.{any?, select, sum, concat_map, numbered, among, times}
use Rattle.plan.specs.Sheet.{Step, no_step, step_at}
use Rattle.plan.specs.Faults.{named}
use Rattle.plan.specs.Graph.{Edge, sinks, is_cache, one_id, most_places, key, all_steps, first_met, pop, popped, pushes, hits, opens, following, edges_into, grow, build_ir_traversal_graph, graph}
use Rattle.plan.proofs.ListLaws.{and_left, and_right}
use borrow.Author.Tests.{ne_eqb}
use Rattle.plan.proofs.Booleans.{T_eq, and_both, equal}
use Rattle.plan.proofs.Counts.{true_of, false_of, T_of, entry_of, sum_reverse, mem_reverse, times_of}
use Rattle.claims.proofs.Visits.{length_numbered}
use Rattle.claims.specs.Plan.{Plan}
use Rattle.claims.proofs.Plans.{sinks_from, sinks_count, root_there}
use Rattle.claims.proofs.Keys.{both_caches, key_other, key_key, key_cache, key_same, same_key, met_here}
use Rattle.claims.proofs.Reached.{followed_none}
use Rattle.claims.proofs.Places.{opened, none_opened, Ordered, graph_ordered}
use Rattle.claims.proofs.EnoughFuel.{pop_enough, grow_enough}
use Rattle.claims.proofs.ByLine as by_line

-- Lists ---------------------------------------------------------------------------------------------------------------------------

pub at_numbered : {A B : Type 0} (f : ℕ × A → B) (k : ℕ) (l : List A) (d : A) (e : B) (n : ℕ) → n < length l → get_or (map f (numbered k l)) n e ≡ f (k + n, get_or l n d)
unfolding numbered
at_numbered f k [] d e n h = absurd (not-suc-le-zero h)
at_numbered f k (x ∷ l) d e zero h = ap (λ (i : ℕ). f (i, x)) (omega arith)
at_numbered f k (x ∷ l) d e (suc n) h = at_numbered f (suc k) l d e n (omega arith) ∙ ap (λ (i : ℕ). f (i, get_or l n d)) (omega arith)

map_reverse : (f : ℕ → ℕ) (l : List ℕ) → map f (reverse l) ≡ reverse (map f l)
map_reverse f [] = refl
map_reverse f (x ∷ l) = rw (reverse-cons, reverse-cons, map-append) (ap (λ (r : List ℕ). r ++ (f x ∷ [])) (map_reverse f l))

pub map_kept : (f : ℕ → ℕ) (l : List ℕ) → ((n : ℕ) → Memᴰ n l → f n ≡ n) → map f l ≡ l
map_kept f [] h = refl
map_kept f (x ∷ l) h = ap₂ (λ (a : ℕ) (b : List ℕ). a ∷ b) (h x (Memᴰ.head refl)) (map_kept f l (λ n m. h n (Memᴰ.tail m)))

-- The merged plan -------------------------------------------------------------------------------------------------------------------

module _ (ps : List Step) where
  abbrev pub kept : ℕ → Bool
  kept n = eqb (key ps n) n

  abbrev pub as_merged : ℕ × Step → Step
  as_merged (n, s) =
      record {
        kind = if kept n then s.kind else IR.Scan;
        a = s.a;
        b = s.b;
        c = s.c;
        inputs = if kept n then map (key ps) s.inputs else [];
        exprs = s.exprs;
        aggs = s.aggs;
      }

  unfoldable pub merged : List Step
  merged = map as_merged (numbered 0 ps)

  pub length_merged : length merged ≡ length ps
  unfolding merged
  length_merged = simp (length-map, length_numbered)

  key_past : (n : ℕ) → length ps ≤ n → key ps n ≡ n
  key_past n h = key_other ps n (ap (λ (s : Step). same_ir s.kind IR.Cache) (get_or-eq_default ps no_step h))

  pub at_merged : (n : ℕ) → step_at merged n ≡ as_merged (n, step_at ps n)
  unfolding merged
  at_merged n = by (dec_lt n (length ps))
    where
      blank : (b : Bool) → b ≡ true → no_step ≡ record { kind = if b then IR.Scan else IR.Scan; a = 0; b = 0; c = 0; inputs = if b then [] else []; exprs = []; aggs = [] }
      blank true e = refl
      blank false e = refl

      by : Dec (n < length ps) → step_at (map as_merged (numbered 0 ps)) n ≡ as_merged (n, step_at ps n)
      by (yes h) = at_numbered as_merged 0 ps no_step no_step n h ∙ ap (λ (i : ℕ). as_merged (i, step_at ps n)) (omega arith)
      by (no h) =
          get_or-eq_default (map as_merged (numbered 0 ps)) no_step {n = n} (simp (length-map, length_numbered) (omega arith))
          ∙ blank (kept n) (true_of (kept n) (equal (key ps n) n (key_past n (omega arith))))
          ∙ ap (λ (s : Step). as_merged (n, s)) (sym (get_or-eq_default ps no_step {n = n} (omega arith)))

  is_kept : (n : ℕ) → key ps n ≡ n → kept n ≡ true
  is_kept n e = true_of (kept n) (equal (key ps n) n e)

  pub merged_kind : (n : ℕ) → key ps n ≡ n → (step_at merged n).kind ≡ (step_at ps n).kind
  merged_kind n e = ap (λ (s : Step). s.kind) (at_merged n) ∙ ap (λ (b : Bool). if b then (step_at ps n).kind else IR.Scan) (is_kept n e)

  pub merged_inputs : (n : ℕ) → key ps n ≡ n → (step_at merged n).inputs ≡ map (key ps) (step_at ps n).inputs
  merged_inputs n e = ap (λ (s : Step). s.inputs) (at_merged n) ∙ ap (λ (b : Bool). if b then map (key ps) (step_at ps n).inputs else []) (is_kept n e)

  pub merged_away : (n : ℕ) → key ps n ≢ n → ((step_at merged n).kind ≡ IR.Scan) × ((step_at merged n).inputs ≡ [])
  merged_away n h =
      let e = ne_eqb (key ps n) n h in (
        ap (λ (s : Step). s.kind) (at_merged n) ∙ ap (λ (b : Bool). if b then (step_at ps n).kind else IR.Scan) e,
        ap (λ (s : Step). s.inputs) (at_merged n) ∙ ap (λ (b : Bool). if b then map (key ps) (step_at ps n).inputs else []) e,
      )

  pub merged_cache : (n : ℕ) → is_cache merged (key ps n) ≡ is_cache ps n
  merged_cache n = ap (λ (k : IR). same_ir k IR.Cache) (merged_kind (key ps n) (key_key ps n)) ∙ key_cache ps n

  -- The roots -------------------------------------------------------------------------------------------------------------------------

  sinks_same : (g : ℕ × Step → Step) (k : ℕ) (l : List Step)
      → ((n : ℕ) (s : Step) → Memᴰ (n, s) (numbered k l) → same_ir (g (n, s)).kind IR.Sink ≡ same_ir s.kind IR.Sink)
      → sinks_from k (map g (numbered k l)) ≡ sinks_from k l
  unfolding numbered select
  sinks_same g k [] h = refl
  sinks_same g k (x ∷ l) h =
      by (same_ir (g (k, x)).kind IR.Sink) (same_ir x.kind IR.Sink) (h k x (Memᴰ.head refl)) (sinks_same g (suc k) l (λ n s m. h n s (Memᴰ.tail m)))
    where
      by : (b c : Bool) → b ≡ c → sinks_from (suc k) (map g (numbered (suc k) l)) ≡ sinks_from (suc k) l
          → let later = select (λ (n, s). same_ir s.kind IR.Sink) (numbered (suc k) (map g (numbered (suc k) l))) in
          let later' = select (λ (n, s). same_ir s.kind IR.Sink) (numbered (suc k) l) in
          map (λ (n, s). n) (if b then (k, g (k, x)) ∷ later else later) ≡ map (λ (n, s). n) (if c then (k, x) ∷ later' else later')
      by true true e rec = ap (λ (r : List ℕ). k ∷ r) rec
      by true false e rec = absurd (subst T e tt)
      by false true e rec = absurd (subst T (sym e) tt)
      by false false e rec = rec

  pub sinks_merged : sinks merged ≡ sinks ps
  unfolding sinks merged
  sinks_merged =
      sinks_same as_merged 0 ps
      (λ n s m.
      let (i, h, e, v) = entry_of 0 ps no_step (n, s) m in
      let here : s ≡ step_at ps n = v ∙ ap (step_at ps) (omega arith) in
      by n s (kept n) refl (λ o. key_other ps n (ap (λ (x : Step). same_ir x.kind IR.Cache) (sym here) ∙ o)))
    where
      other : (k : IR) → T (same_ir k IR.Sink) → same_ir k IR.Cache ≡ false
      other IR.Sink t = refl
      other IR.Scan t = absurd t
      other IR.UnoptimizedDispatch t = absurd t
      other IR.Select t = absurd t
      other IR.HStack t = absurd t
      other IR.Sort t = absurd t
      other IR.Filter t = absurd t
      other IR.GroupBy t = absurd t
      other IR.Distinct t = absurd t
      other IR.Join t = absurd t
      other IR.Gather t = absurd t
      other IR.Union t = absurd t
      other IR.MergeSorted t = absurd t
      other IR.MapFunction t = absurd t
      other IR.HConcat t = absurd t
      other IR.Slice t = absurd t
      other IR.ExtContext t = absurd t
      other IR.SimpleProjection t = absurd t
      other IR.Cache t = absurd t

      by : (n : ℕ) (s : Step) (b : Bool) → kept n ≡ b → (same_ir s.kind IR.Cache ≡ false → key ps n ≡ n)
          → same_ir (if b then s.kind else IR.Scan) IR.Sink ≡ same_ir s.kind IR.Sink
      by n s true e f = refl
      by n s false e f =
          sym (false_of (same_ir s.kind IR.Sink)
          (λ t. subst T e (equal (key ps n) n (f (other s.kind t)))))

  pub sink_key : (n : ℕ) → T (same_ir (step_at ps n).kind IR.Sink) → key ps n ≡ n
  sink_key n t = key_other ps n (false_of (is_cache ps n) (λ c. let z = eqb→eq (ir_number (step_at ps n).kind) 18 c in let y = eqb→eq (ir_number (step_at ps n).kind) 2 t in omega (arith, z, y)))

  -- The first pass ------------------------------------------------------------------------------------------------------------------

  pop_extends : (f : ℕ) (met stack : List ℕ) → (later : List ℕ) × (pop f ps met stack ≡ met ++ later)
  unfolding pop
  pop_extends zero met stack = ([], sym (append-nil met))
  pop_extends (suc f) met [] = ([], sym (append-nil met))
  pop_extends (suc f) met (n ∷ stack) =
      let (later, e) = pop_extends f (met ++ (n ∷ [])) (reverse (pushes ps met n) ++ stack) in
      (n ∷ later, e ∙ append_assoc met (n ∷ []) later)

  one_key : (j n : ℕ) → one_id ps j n ≡ (is_cache ps n && eqb (key ps n) (key ps j))
  one_key j n =
      T_eq (one_id ps j n) (is_cache ps n && eqb (key ps n) (key ps j))
      (λ t. and_both (is_cache ps n) (eqb (key ps n) (key ps j)) (both_caches ps j n t).1 (equal (key ps n) (key ps j) (sym (key_same ps j n t))))
      (λ t. same_key ps j n (and_left (is_cache ps n) _ t) (sym (eqb→eq (key ps n) (key ps j) (and_right (is_cache ps n) _ t))))

  met_before : (met : List ℕ) (n : ℕ) → any? (λ j. one_id ps j n) met ≡ (is_cache ps n && among (key ps n) (map (key ps) met))
  unfolding any?
  met_before [] n = by (is_cache ps n)
    where
      by : (c : Bool) → false ≡ (c && false)
      by true = refl
      by false = refl
  met_before (j ∷ met) n =
      ap₂ (λ (x y : Bool). x || y) (one_key j n) (met_before met n) ∙ by (is_cache ps n) (eqb (key ps n) (key ps j)) (among (key ps n) (map (key ps) met))
    where
      by : (c x y : Bool) → ((c && x) || (c && y)) ≡ (c && (x || y))
      by true x y = refl
      by false x y = refl

  opened_key : (n : ℕ) → key ps n ≡ first_met ps (popped ps ++ all_steps ps) n
  unfolding key
  opened_key n = refl

  pushes_keys : (met later : List ℕ) (n : ℕ) → popped ps ≡ met ++ (n ∷ later) → map (key ps) (pushes ps met n) ≡ by_line.pushes merged (map (key ps) met) (key ps n)
  unfolding pushes by_line.pushes
  pushes_keys met later n e =
      by (any? (λ j. one_id ps j n) met) (is_cache merged (key ps n) && among (key ps n) (map (key ps) met))
      (met_before met n ∙ ap (λ (c : Bool). c && among (key ps n) (map (key ps) met)) (sym (merged_cache n))) refl
    where
      first : (b : Bool) → is_cache ps n ≡ b → any? (λ j. one_id ps j n) met ≡ false → key ps n ≡ n
      first true c h =
          opened_key n ∙ ap (λ (l : List ℕ). first_met ps (l ++ all_steps ps) n) e ∙ ap (λ (l : List ℕ). first_met ps l n) (append_assoc met (n ∷ later) (all_steps ps))
          ∙ met_here ps met (later ++ all_steps ps) n (T_of (is_cache ps n) c) h
      first false c h = key_other ps n c

      by : (b c : Bool) → b ≡ c → any? (λ j. one_id ps j n) met ≡ b
          → map (key ps) (if b then [] else (step_at ps n).inputs) ≡ (if c then [] else (step_at merged (key ps n)).inputs)
      by true true i h = refl
      by true false i h = absurd (subst T i tt)
      by false true i h = absurd (subst T (sym i) tt)
      by false false i h =
          let k = first (is_cache ps n) refl h in
          sym (merged_inputs n k) ∙ ap (λ (m : ℕ). (step_at merged m).inputs) (sym k)

  pop_keys : (f : ℕ) (met stack : List ℕ) → popped ps ≡ pop f ps met stack
      → map (key ps) (pop f ps met stack) ≡ by_line.pop f merged (map (key ps) met) (map (key ps) stack)
  unfolding pop by_line.pop
  pop_keys zero met stack e = refl
  pop_keys (suc f) met [] e = refl
  pop_keys (suc f) met (n ∷ stack) e =
      let (later, x) = pop_extends f (met ++ (n ∷ [])) (reverse (pushes ps met n) ++ stack) in
      let at = pushes_keys met later n (e ∙ x ∙ append_assoc met (n ∷ []) later) in
      pop_keys f (met ++ (n ∷ [])) (reverse (pushes ps met n) ++ stack) e
      ∙ ap₂ (by_line.pop f merged) (map-append (key ps) met (n ∷ []))
      (map-append (key ps) (reverse (pushes ps met n)) stack
      ∙ ap (λ (l : List ℕ). l ++ map (key ps) stack) (map_reverse (key ps) (pushes ps met n) ∙ ap reverse at))

  -- The second pass -----------------------------------------------------------------------------------------------------------------

  following_keys : (met past : List ℕ) (n : ℕ)
      → map (key ps) (following (key ps) ps met past n) ≡ by_line.following merged (map (key ps) met) (map (key ps) past) (key ps n)
  unfolding following by_line.following opens by_line.opens hits
  following_keys met past n =
      by (opens (key ps) ps met past n)
      ∙ ap (λ (c : Bool). if not c || eqb (times (key ps n) (map (key ps) past) + 1) (times (key ps n) (map (key ps) met)) then (step_at merged (key ps n)).inputs else [])
      (sym (merged_cache n))
    where
      by : (b : Bool) → map (key ps) (if b then (step_at ps (key ps n)).inputs else []) ≡ (if b then (step_at merged (key ps n)).inputs else [])
      by true = sym (merged_inputs (key ps n) (key_key ps n))
      by false = refl

  edges_keys : (n : ℕ) (ms : List ℕ) → edges_into (key ps) n ms ≡ by_line.edges_into (key ps n) (map (key ps) ms)
  unfolding edges_into by_line.edges_into numbered
  edges_keys n ms = from 0 ms
    where
      from : (k : ℕ) (ms : List ℕ)
          → map {B = Edge} (λ (j, m). record { consumer = key ps n; slot = j; producer = some (key ps m); unordered = false }) (numbered k ms)
          ≡ map {B = Edge} (λ (j, m). record { consumer = key ps n; slot = j; producer = some m; unordered = false }) (numbered k (map (key ps) ms))
      from k [] = refl
      from k (m ∷ ms) = ap (λ (l : List Edge). record { consumer = key ps n; slot = k; producer = some (key ps m); unordered = false } ∷ l) (from (suc k) ms)

  grow_keys : (f : ℕ) (met past waiting : List ℕ) (es : List Edge)
      → let g = grow (key ps) f ps met past waiting es in
      (map (key ps) g.0, g.1) ≡ by_line.grow f merged (map (key ps) met) (map (key ps) past) (map (key ps) waiting) es
  unfolding grow by_line.grow
  grow_keys zero met past waiting es =
      ap (λ (l : List ℕ). (l, es)) (map-append (key ps) (reverse past) waiting ∙ ap (λ (l : List ℕ). l ++ map (key ps) waiting) (map_reverse (key ps) past))
  grow_keys (suc f) met past [] es = ap (λ (l : List ℕ). (l, es)) (map_reverse (key ps) past)
  grow_keys (suc f) met past (n ∷ ns) es =
      let ms = following (key ps) ps met past n in
      let same = following_keys met past n in
      grow_keys f met (n ∷ past) (ns ++ ms) (es ++ edges_into (key ps) n ms)
      ∙ ap₂ (λ (l : List ℕ) (x : List Edge). by_line.grow f merged (map (key ps) met) (key ps n ∷ map (key ps) past) l x)
      (map-append (key ps) ns ms ∙ ap (λ (l : List ℕ). map (key ps) ns ++ l) same)
      (ap (λ (x : List Edge). es ++ x) (edges_keys n ms ∙ ap (by_line.edges_into (key ps n)) same))

  -- Both --------------------------------------------------------------------------------------------------------------------------------

  shorter : (b : Bool) (xs : List ℕ) → length (if b then map (key ps) xs else []) ≤ length xs
  shorter true xs = simp length-map (omega arith)
  shorter false xs = omega arith

  pub merged_fewer : (n : ℕ) → length (step_at merged n).inputs ≤ length (step_at ps n).inputs
  merged_fewer n = omega (arith, shorter (kept n) (step_at ps n).inputs, ap (λ (s : Step). length s.inputs) (at_merged n))

  pub fewer_named : length (named merged) ≤ length (named ps)
  unfolding named merged numbered concat_map
  fewer_named = from 0 ps
    where
      from : (k : ℕ) (l : List Step) → length (concat_map (λ (s : Step). s.inputs) (map as_merged (numbered k l))) ≤ length (concat_map (λ (s : Step). s.inputs) l)
      from k [] = omega arith
      from k (x ∷ l) = simp length-append (omega (arith, from (suc k) l, shorter (kept k) x.inputs))

  module _ (plan : Plan merged) where
    sinks_keys : map (key ps) (sinks ps) ≡ sinks merged
    sinks_keys =
        map_kept (key ps) (sinks ps)
        (λ n m. by n (same_ir (step_at ps n).kind IR.Sink) (sinks_count ps n) (times_of n (sinks ps) m) (sink_key n)) ∙ sym sinks_merged
      where
        by : (n : ℕ) (b : Bool) → times n (sinks ps) ≡ (if b then 1 else 0) → 1 ≤ times n (sinks ps) → (T b → key ps n ≡ n) → key ps n ≡ n
        by n true e h f = f tt
        by n false e h f = absurd (omega arith)

    -- the plan has as many turns as the merged one, and more
    more : ℕ
    more = length (named ps) - length (named merged)

    enough : most_places ps ≡ most_places merged + more
    unfolding more
    enough = omega (arith, fewer_named, ap length sinks_merged)

    pub popped_keys : map (key ps) (popped ps) ≡ by_line.popped merged
    unfolding popped by_line.popped sum any?
    popped_keys =
        pop_keys (most_places ps) [] (reverse (sinks ps)) refl
        ∙ ap₂ (λ (f : ℕ) (l : List ℕ). by_line.pop f merged [] l) enough (map_reverse (key ps) (sinks ps) ∙ ap reverse sinks_keys)
        ∙ pop_enough merged plan (most_places merged) more [] (reverse (sinks merged)) (omega arith)
        (λ w. omega (arith, sum_reverse w (sinks merged), followed_none w merged (λ n. among n []) (λ n. refl)))
        (λ n m. root_there merged plan n (mem_reverse n (sinks merged) m))

    pub graph_merged : graph ps ≡ by_line.graph merged
    unfolding graph build_ir_traversal_graph by_line.graph sum
    graph_merged =
        grow_keys (most_places ps) (popped ps) [] (sinks ps) []
        ∙ ap₂ (λ (l m : List ℕ). by_line.grow (most_places ps) merged l [] m []) popped_keys sinks_keys
        ∙ ap (λ (f : ℕ). by_line.grow f merged (by_line.popped merged) [] (sinks merged) []) enough
        ∙ grow_enough merged plan (most_places merged) more [] (sinks merged) [] (omega arith)
        (λ w. omega (arith, followed_none w merged (opened merged []) (none_opened merged plan)))
        (root_there merged plan)

    pub ordered_graph : Ordered merged (graph ps).0 (graph ps).1
    ordered_graph = subst (λ (x : List ℕ × List Edge). Ordered merged x.0 x.1) (sym graph_merged) (graph_ordered merged plan)
