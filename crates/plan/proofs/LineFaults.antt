-- The tests behind 7, 8 and 12, 13 and 9 against their conditions: a line that fails its test is wrong, and one that passes it is not.
use Rattle.std.specs.Prelude.{if◌then◌else◌}
use mathlib.Core.Path.{◌≡◌, refl, ap, sym, ◌∙◌, subst}
use mathlib.Core.Logic.{◌⊎◌, inl, inr, ◌≢◌}
use Prim.Native.Nat.{ℕ, zero, suc, ◌+◌, ◌≤◌, ◌<◌}
use native.Mathlib.Omega.{arith}
use native.Mathlib.Decide.{dec_lt}
use mathlib.Core.Bool.{Bool, true, false, ◌&&◌, ◌||◌, not}
use mathlib.Core.List.Memᴰ
use mathlib.Core.List.{List, [], ◌∷◌, ◌++◌, map, Memᴰ}
use lib.Dec.{T, T_not, not_T, eqb, ltb, leb, eqb→eq, eqb_refl, leb→le, nleb→lt, ltb→lt, nltb→le}
use lib.ListN.{length, get_or, get_or-eq_default}
use Rattle.plan.specs.declared.aexpr.AExpr.{AExpr}
use Rattle.plan.specs.declared.ir.IR.{IR}
use Rattle.plan.specs.Kinds.{same_aexpr, same_ir, ir_number, aexpr_number}
use Rattle.plan.specs.Lists.{all?, sum, select, concat_map, numbered, among, times, rest}
use Rattle.plan.specs.Sheet.{Expr, Step, Sheet, no_expr, no_step, expr_at, step_at}
use Rattle.plan.specs.Faults.{Indexed, children_earlier, inputs_earlier, exprs_there, references_right, exprs_named, named, uses, named_right, use_number, cache_ids, id_right, tree, evaluated, field_right}
use Rattle.plan.specs.Conditions.{RefersWrong, Unnamed, NamedOften, NamedWrong, SharesId, Evaluated, FieldOutside}
use Rattle.plan.proofs.ListLaws.{and_left, and_right, of_all}
use Rattle.plan.proofs.Booleans.{and_both, equal}
use Rattle.plan.proofs.Counts.{mem_at, mem_concat, in_concat, entry_of, count, counted_in, counted_twice, counted_beside, times_of, stands_in, among_times, times_among}
use Rattle.plan.proofs.KindNumbers.{same_kind, same_expr_kind, in_range}

-- Tests that fail ------------------------------------------------------------------------------------------------------------

pub some_fails : {A : Type 0} (f : A → Bool) (l : List A) → T (not (all? f l)) → (x : A) × Memᴰ x l × T (not (f x))
unfolding all?
some_fails f [] t = absurd t
some_fails f (x ∷ l) t = by (f x) refl t (λ u. some_fails f l u)
  where
    by : (b : Bool) → f x ≡ b → T (not (b && all? f l)) → (T (not (all? f l)) → (y : _) × Memᴰ y l × T (not (f y)))
        → (y : _) × Memᴰ y (x ∷ l) × T (not (f y))
    by true e t rec = let (y, m, u) = rec t in (y, Memᴰ.tail m, u)
    by false e t rec = (x, Memᴰ.head refl, subst (λ (b : Bool). T (not b)) (sym e) tt)

either_fails : (a b : Bool) → T (not (a && b)) → T (not a) ⊎ T (not b)
either_fails true b t = inr t
either_fails false b t = inl tt

both_fail : (a b : Bool) → T (not (a || b)) → T (not a) × T (not b)
both_fail true b t = absurd t
both_fail false b t = (tt, t)

twice_not : (b : Bool) → T (not (not b)) → T b
twice_not true t = tt
twice_not false t = t

is_kind : (k j : IR) → T (same_ir j j) → k ≡ j → T (same_ir k j)
is_kind k j t e = subst (λ (x : IR). T (same_ir x j)) (sym e) t

other_kind : (k j : IR) → T (same_ir j j) → T (not (same_ir k j)) → k ≢ j
other_kind k j t u e = T_not (same_ir k j) u (is_kind k j t e)

no_kind : (k j : IR) → k ≢ j → T (not (same_ir k j))
no_kind k j h = not_T (same_ir k j) (λ t. h (same_kind k j t))

-- 7 ----------------------------------------------------------------------------------------------------------------------------

module _ (sh : Sheet) where
  abbrev is_sink : ℕ → Bool
  is_sink m = same_ir (step_at sh.steps m).kind IR.Sink

  abbrev input_right : ℕ → ℕ → Bool
  input_right n m = ltb m n && not (is_sink m)

  abbrev expr_there : ℕ → Bool
  expr_there q = ltb q (length sh.exprs)

  pub refers_wrong : (l : Indexed) → T (not (references_right sh l)) → RefersWrong sh l
  unfolding references_right children_earlier inputs_earlier exprs_there
  refers_wrong (Indexed.expr (i, e)) t =
      let (q, m, u) = some_fails (λ q. ltb q i) e.children t in
      RefersWrong.child m (nltb→le q i u)
  refers_wrong (Indexed.step (n, s)) t =
      elim (either_fails (all? (input_right n) s.inputs) _ t) [
        | inl u ↦
            let (m, k, v) = some_fails (input_right n) s.inputs u in
            elim (either_fails (ltb m n) (not (is_sink m)) v) [
              | inl w ↦ RefersWrong.input k (nltb→le m n w)
              | inr w ↦ RefersWrong.sink k (same_kind (step_at sh.steps m).kind IR.Sink (twice_not (is_sink m) w))
            ]
        | inr u ↦ let (q, k, v) = some_fails expr_there (s.exprs ++ s.aggs) u in RefersWrong.expression k (nltb→le q (length sh.exprs) v)
      ]

  pub refers_right : (l : Indexed) → T (references_right sh l) → ¬ RefersWrong sh l
  unfolding references_right children_earlier inputs_earlier exprs_there
  refers_right _ t (RefersWrong.child {i} {q} {e} m h) = let u = ltb→lt q i (of_all (λ q. ltb q i) e.children t q m) in omega arith
  refers_right _ t (RefersWrong.input {n} {m} {s} k h) =
      let u = of_all (input_right n) s.inputs (and_left (all? (input_right n) s.inputs) (all? expr_there (s.exprs ++ s.aggs)) t) m k in
      let v = ltb→lt m n (and_left (ltb m n) (not (is_sink m)) u) in
      omega arith
  refers_right _ t (RefersWrong.sink {n} {m} {s} k e) =
      let u = of_all (input_right n) s.inputs (and_left (all? (input_right n) s.inputs) (all? expr_there (s.exprs ++ s.aggs)) t) m k in
      other_kind (step_at sh.steps m).kind IR.Sink tt (and_right (ltb m n) (not (is_sink m)) u) e
  refers_right _ t (RefersWrong.expression {n} {q} {s} m h) =
      let u = of_all expr_there (s.exprs ++ s.aggs) (and_right (all? (input_right n) s.inputs) (all? expr_there (s.exprs ++ s.aggs)) t) q m in
      let v = ltb→lt q (length sh.exprs) u in
      omega arith

-- 8 and 12 ---------------------------------------------------------------------------------------------------------------------

pub reused_number : (k : ℕ) → k ≢ 0 → use_number k ≡ 12
reused_number zero h = absurd (h refl)
reused_number (suc k) h = refl

never_or_often : (k : ℕ) → T (not (eqb k 1)) → (k ≡ 0) ⊎ (1 < k)
never_or_often zero t = inl refl
never_or_often (suc zero) t = absurd t
never_or_often (suc (suc k)) t = inr (omega arith)

module _ (sh : Sheet) where
  pub named_wrong : (l : Indexed) → T (not (named_right sh l)) → NamedWrong sh l
  unfolding named_right
  named_wrong (Indexed.expr (i, e)) t =
      elim (never_or_often (times i (exprs_named sh)) t) [ inl u ↦ inl (Unnamed.expr u) | inr u ↦ inr (NamedOften.expr u) ]
  named_wrong (Indexed.step (n, s)) t =
      let k = times n (named sh.steps) in
      let (sink, u) = both_fail (same_ir s.kind IR.Sink) _ t in
      let no_sink = other_kind s.kind IR.Sink tt sink in
      elim (either_fails (leb 1 k) _ u) [
        | inl v ↦ inl (Unnamed.step {n = n} {s = s} no_sink (let h = nleb→lt 1 k v in omega arith))
        | inr v ↦
            let (cache, w) = both_fail (same_ir s.kind IR.Cache) (leb k 1) v in
            inr (NamedOften.step no_sink (other_kind s.kind IR.Cache tt cache) (nleb→lt k 1 w))
      ]

  used : (a c : Bool) (k : ℕ) → T (not a) → T (a || (leb 1 k && (c || leb k 1))) → (1 ≤ k) × (T (not c) → k ≤ 1)
  used true c k h t = absurd h
  used false true k h t = (leb→le 1 k (and_left (leb 1 k) true t), λ u. absurd u)
  used false false k h t = (leb→le 1 k (and_left (leb 1 k) (leb k 1) t), λ u. leb→le k 1 (and_right (leb 1 k) (leb k 1) t))

  step_used : (n : ℕ) (s : Step) → s.kind ≢ IR.Sink → T (named_right sh (Indexed.step (n, s)))
      → (1 ≤ times n (named sh.steps)) × (T (not (same_ir s.kind IR.Cache)) → times n (named sh.steps) ≤ 1)
  unfolding named_right
  step_used n s h t = used (same_ir s.kind IR.Sink) (same_ir s.kind IR.Cache) _ (no_kind s.kind IR.Sink h) t

  pub names_right : (l : Indexed) → T (named_right sh l) → ¬ NamedWrong sh l
  unfolding named_right
  names_right l t (inl u) = never l t u
    where
      never : (l : Indexed) → T (named_right sh l) → ¬ Unnamed sh l
      never _ t (Unnamed.expr {i} u) = omega (arith, eqb→eq (times i (exprs_named sh)) 1 t)
      never _ t (Unnamed.step {n} {s} h u) = omega (arith, (step_used n s h t).0)
  names_right l t (inr u) = often l t u
    where
      often : (l : Indexed) → T (named_right sh l) → ¬ NamedOften sh l
      often _ t (NamedOften.expr {i} u) = omega (arith, eqb→eq (times i (exprs_named sh)) 1 t)
      often _ t (NamedOften.step {n} {s} h k u) = omega (arith, (step_used n s h t).1 (no_kind s.kind IR.Cache k))

  -- the number of each
  pub unnamed_number : (l : Indexed) → Unnamed sh l → use_number (uses sh l) ≡ 8
  unnamed_number _ (Unnamed.expr u) = ap use_number u
  unnamed_number _ (Unnamed.step h u) = ap use_number u

  pub often_number : (l : Indexed) → NamedOften sh l → use_number (uses sh l) ≡ 12
  often_number _ (NamedOften.expr {i} u) = reused_number (times i (exprs_named sh)) (λ z. omega arith)
  often_number _ (NamedOften.step {n} h c u) = reused_number (times n (named sh.steps)) (λ z. omega arith)

  pub uses_given : (l : Indexed) → use_number (uses sh l) ≢ 0
  uses_given l = by (uses sh l)
    where
      by : (k : ℕ) → use_number k ≢ 0
      by zero e = omega arith
      by (suc k) e = omega arith

-- 13 ---------------------------------------------------------------------------------------------------------------------------

abbrev has_id : ℕ → Step → Bool
has_id id s = same_ir s.kind IR.Cache && eqb id s.a

ids_counted : (id : ℕ) (ps : List Step) → times id (cache_ids ps) ≡ count (has_id id) ps
unfolding cache_ids select sum
ids_counted id [] = refl
ids_counted id (x ∷ ps) = by (same_ir x.kind IR.Cache) (ids_counted id ps)
  where
    later : List Step
    later = select (λ (s : Step). same_ir s.kind IR.Cache) ps

    by : (b : Bool) → times id (map (λ (s : Step). s.a) later) ≡ count (has_id id) ps
        → times id (map (λ (s : Step). s.a) (if b then x ∷ later else later)) ≡ (if b && eqb id x.a then 1 else 0) + count (has_id id) ps
    by true e = omega arith
    by false e = omega arith

module _ (ps : List Step) where
  -- an entry of the numbered steps is the step of its number
  step_there : (n : ℕ) (s : Step) → Memᴰ (n, s) (numbered 0 ps) → (n < length ps) × (s ≡ step_at ps n)
  step_there n s m =
      let (i, h, e, v) = entry_of 0 ps no_step (n, s) m in
      (omega arith, v ∙ ap (λ j. step_at ps j) (omega arith))

  own_id : (n : ℕ) (s : Step) → Memᴰ (n, s) (numbered 0 ps) → s.kind ≡ IR.Cache → T (has_id s.a (step_at ps n))
  own_id n s m k =
      let (_, e) = step_there n s m in
      subst (λ (x : Step). T (has_id s.a x)) e (and_both (same_ir s.kind IR.Cache) (eqb s.a s.a) (is_kind s.kind IR.Cache tt k) (eqb_refl s.a))

  pub shares_id : (x : ℕ × Step) → Memᴰ x (numbered 0 ps) → T (not (id_right ps x)) → SharesId ps x
  unfolding id_right
  shares_id (n, s) m t =
      let (c, u) = both_fail (not (same_ir s.kind IR.Cache)) _ t in
      let kind = same_kind s.kind IR.Cache (twice_not (same_ir s.kind IR.Cache) c) in
      let (h, _) = step_there n s m in
      let one = counted_in (has_id s.a) ps (step_at ps n) (mem_at ps n no_step h) (own_id n s m kind) in
      let two : 2 ≤ count (has_id s.a) ps = omega (arith, ids_counted s.a ps, not_one (times s.a (cache_ids ps)) u) in
      let (i, _, other, v) = counted_beside (has_id s.a) ps no_step n two in
      let is = same_ir (step_at ps i).kind IR.Cache in
      let id = eqb s.a (step_at ps i).a in
      SharesId.cache kind other (same_kind (step_at ps i).kind IR.Cache (and_left is id v)) (sym (eqb→eq s.a (step_at ps i).a (and_right is id v)))
    where
      not_one : (k : ℕ) → T (not (eqb k 1)) → k ≢ 1
      not_one k u e = T_not (eqb k 1) u (equal k 1 e)

  pub ids_right : (x : ℕ × Step) → Memᴰ x (numbered 0 ps) → T (id_right ps x) → ¬ SharesId ps x
  unfolding id_right
  ids_right _ l t (SharesId.cache {n} {m = i} {s} kind other there same) =
      let (h, _) = step_there n s l in
      let one = own_once (same_ir s.kind IR.Cache) (is_kind s.kind IR.Cache tt kind) t in
      let here = own_id n s l kind in
      let beside =
      and_both (same_ir (step_at ps i).kind IR.Cache) (eqb s.a (step_at ps i).a) (is_kind (step_at ps i).kind IR.Cache tt there)
      (equal s.a (step_at ps i).a (sym same)) in
      twice n i h (in_range ps i (ap ir_number there)) other here beside one
    where
      own_once : (c : Bool) → T c → T (not c || eqb (times s.a (cache_ids ps)) 1) → count (has_id s.a) ps ≡ 1
      own_once true u t = sym (ids_counted s.a ps) ∙ eqb→eq (times s.a (cache_ids ps)) 1 t
      own_once false u t = absurd u

      twice : (n i : ℕ) → n < length ps → i < length ps → i ≢ n → T (has_id s.a (step_at ps n)) → T (has_id s.a (step_at ps i))
          → count (has_id s.a) ps ≡ 1 → ⊥
      twice n i h k other t u one = by (dec_lt n i)
        where
          by : Dec (n < i) → ⊥
          by (yes g) = omega (arith, counted_twice (has_id s.a) ps no_step n i g k t u)
          by (no g) = let j : i < n = omega (arith, other) in omega (arith, counted_twice (has_id s.a) ps no_step i n j h u t)

-- 9 ----------------------------------------------------------------------------------------------------------------------------

module _ (es : List Expr) where
  abbrev under_eval : Expr → List ℕ
  under_eval e = if same_aexpr e.kind AExpr.StructEval then concat_map (tree es) (rest e.children) else []

  evaluated_in : (i : ℕ) → Evaluated es i → Memᴰ i (evaluated es)
  unfolding evaluated
  evaluated_in i (Evaluated.under k q kind m t) =
      in_concat under_eval es (expr_at es k) i (mem_at es k no_expr (expr_in_range k kind))
      (subst (λ (x : AExpr). Memᴰ i (if same_aexpr x AExpr.StructEval then concat_map (tree es) (rest (expr_at es k).children) else [])) (sym kind)
      (in_concat (tree es) (rest (expr_at es k).children) q i m t))
    where
      expr_in_range : (k : ℕ) → (expr_at es k).kind ≡ AExpr.StructEval → k < length es
      expr_in_range k e = by (dec_lt k (length es))
        where
          by : Dec (k < length es) → k < length es
          by (yes h) = h
          by (no h) = absurd (let z = ap aexpr_number (sym e ∙ ap (λ (x : Expr). x.kind) (get_or-eq_default es no_expr {n = k} (omega arith))) in omega (arith, z))

  in_evaluated : (i : ℕ) → Memᴰ i (evaluated es) → Evaluated es i
  unfolding evaluated
  in_evaluated i m =
      let (k, h, j) = mem_concat under_eval es no_expr i m in
      by k (same_aexpr (expr_at es k).kind AExpr.StructEval) (λ t. same_expr_kind (expr_at es k).kind AExpr.StructEval t) j
    where
      by : (k : ℕ) (b : Bool) → (T b → (expr_at es k).kind ≡ AExpr.StructEval)
          → Memᴰ i (if b then concat_map (tree es) (rest (expr_at es k).children) else []) → Evaluated es i
      by k true f j =
          let (c, h, t) = mem_concat (tree es) (rest (expr_at es k).children) 0 i j in
          Evaluated.under k (get_or (rest (expr_at es k).children) c 0) (f tt) (mem_at (rest (expr_at es k).children) c 0 h) t
      by k false f j = absurd (Memᴰ.not-nil j)

  pub field_outside : (x : ℕ × Expr) → T (not (field_right es x)) → FieldOutside es x
  unfolding field_right
  field_outside (i, e) t =
      let (k, u) = both_fail (not (same_aexpr e.kind AExpr.StructField)) (among i (evaluated es)) t in
      FieldOutside.field (same_expr_kind e.kind AExpr.StructField (twice_not (same_aexpr e.kind AExpr.StructField) k))
      (λ v. T_not (among i (evaluated es)) u (times_among i (evaluated es) (times_of i (evaluated es) (evaluated_in i v))))

  pub fields_right : (x : ℕ × Expr) → T (field_right es x) → ¬ FieldOutside es x
  unfolding field_right
  fields_right _ t (FieldOutside.field {i} {e} kind out) = out (in_evaluated i (stands_in i (evaluated es) (among_times i (evaluated es) (inside (same_aexpr e.kind AExpr.StructField) is_field t))))
    where
      is_field : T (same_aexpr e.kind AExpr.StructField)
      is_field = subst (λ (x : AExpr). T (same_aexpr x AExpr.StructField)) (sym kind) tt

      inside : (b : Bool) → T b → T (not b || among i (evaluated es)) → T (among i (evaluated es))
      inside true u t = t
      inside false u t = absurd u
