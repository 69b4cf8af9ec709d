-- The numbers of a sheet that is read, and of its walks: each is given exactly under its condition.
use Rattle.std.specs.Prelude.{if◌then◌else◌}
use mathlib.Core.Path.{◌≡◌, refl, ap, sym, ◌∙◌, subst}
use mathlib.Core.Logic.{inl, inr}
use Prim.Native.Nat.{ℕ}
use native.Mathlib.Omega.{arith}
use mathlib.Core.Bool.{Bool, true, false, ◌&&◌, not}
use mathlib.Core.Option.{Option, none, some}
use mathlib.Core.List.Memᴰ
use mathlib.Core.List.{List, [], ◌∷◌, ◌++◌, Memᴰ}
use lib.Dec.{T, eqb}
use Rattle.plan.specs.declared.ir.IR.{IR}
use Rattle.plan.specs.Kinds.{same_ir}
use Rattle.plan.specs.Lists.{yes?, empty?}
use Rattle.plan.proofs.ListLaws.{and_left, and_right}
use Rattle.plan.specs.Sheet.{Sheet, Outcome, refused, done, ◌then◌, refuse◌when◌else◌, Line, E, P, line_of, expr_fits, expr_of, with_expr, step_fits, step_of, with_step, over_limits, no_plan, read_line, read_lines, onto, parts}
use Rattle.plan.specs.Visit.{Run, Looked, simplify_ir_node_orders, goes, unlink_node, settle, looked_in, looks_of, options_of, join_fails, sink_fails, elementwise, refusal_number}
use Rattle.plan.specs.Walks.{walk, trace, then_all, trace_by, walk_by}
use Rattle.plan.specs.Conditions.{JoinObserves, SinkObserves, NotOfForm, OutsideTable, InTable, ReadInto, AtLine, AtEnd}
use Rattle.plan.proofs.Counts.{true_of}
use Rattle.plan.proofs.Booleans.{and_both}
use Rattle.plan.proofs.KindNumbers.{same_kind}
use Rattle.plan.proofs.Settling.{settled, refusal_in}

-- Outcomes that came to a refusal -------------------------------------------------------------------------------------------------

pub same_number : {A : Type 0} {m n : ℕ} → ◌≡◌ {A = Outcome A} (refused m) (refused n) → m ≡ n
same_number e = cc

pub no_refusal : {A : Type 0} {x : A} {n : ℕ} {B : Type 0} → done x ≡ refused n → B
no_refusal e = let z : ◌≡◌ {A = ℕ} 0 1 = cc in absurd (omega arith)

-- A line --------------------------------------------------------------------------------------------------------------------------

-- what a line comes to, after lines read into sh
pub data LineCame (sh : Sheet) (l : List ℕ) : Outcome Sheet → Type 0 where
  no_form : NotOfForm sh l → LineCame sh l (refused 3)
  no_table : OutsideTable sh l → LineCame sh l (refused 4)
  no_room : {sh' : Sheet} → InTable sh l sh' → T (over_limits sh') → LineCame sh l (refused 5)
  read : {sh' : Sheet} → InTable sh l sh' → T (not (over_limits sh')) → LineCame sh l (done sh')

-- of a sheet with one more line in its table
limited : (sh : Sheet) (l : List ℕ) (sh' : Sheet) → InTable sh l sh' → LineCame sh l (refuse 5 when over_limits sh' else done sh')
unfolding refuse◌when◌else◌
limited sh l sh' i = by (over_limits sh') (λ t. t) (λ t. t)
  where
    by : (b : Bool) → (T b → T (over_limits sh')) → (T (not b) → T (not (over_limits sh'))) → LineCame sh l (refuse 5 when b else done sh')
    by true f g = LineCame.no_room i (f tt)
    by false f g = LineCame.read i (g tt)

pub line_came : (sh : Sheet) (l : List ℕ) → LineCame sh l (read_line (line_of l) sh)
unfolding read_line refuse◌when◌else◌
line_came sh l = on (line_of l) refl
  where
    expr : (ns : List ℕ) → line_of l ≡ some (E ns) → (b : Bool) → (T b → T (no_plan sh)) → (T (not b) → T (not (no_plan sh)))
        → (c : Bool) → (T c → T (expr_fits ns)) → (T (not c) → T (not (expr_fits ns)))
        → LineCame sh l (refuse 3 when not b else refuse 4 when not c else refuse 5 when over_limits (with_expr (expr_of ns) sh) else done (with_expr (expr_of ns) sh))
    expr ns i false f f' c g g' = LineCame.no_form (NotOfForm.expr_after_step i (f' tt))
    expr ns i true f f' false g g' = LineCame.no_table (OutsideTable.expr i (f tt) (g' tt))
    expr ns i true f f' true g g' = limited sh l (with_expr (expr_of ns) sh) (InTable.expr i (f tt) (g tt))

    step : (ns : List ℕ) → line_of l ≡ some (P ns) → (c : Bool) → (T c → T (step_fits ns)) → (T (not c) → T (not (step_fits ns)))
        → LineCame sh l (refuse 4 when not c else refuse 5 when over_limits (with_step (step_of ns) sh) else done (with_step (step_of ns) sh))
    step ns i false g g' = LineCame.no_table (OutsideTable.step i (g' tt))
    step ns i true g g' = limited sh l (with_step (step_of ns) sh) (InTable.step i (g tt))

    on : (o : Option Line) → line_of l ≡ o → LineCame sh l (read_line o sh)
    on none i = LineCame.no_form (NotOfForm.no_line i)
    on (some (E ns)) i = expr ns i (no_plan sh) (λ t. t) (λ t. t) (expr_fits ns) (λ t. t) (λ t. t)
    on (some (P ns)) i = step ns i (step_fits ns) (λ t. t) (λ t. t)

-- All lines -------------------------------------------------------------------------------------------------------------------------

-- what the lines ls come to, after lines read into `from`
pub data LinesCame (from : Sheet) (ls : List (List ℕ)) : Outcome Sheet → Type 0 where
  no_form : {l : List ℕ} {sh : Sheet} → AtLine from ls l sh → NotOfForm sh l → LinesCame from ls (refused 3)
  not_ended : {last : List ℕ} {sh : Sheet} → AtEnd from ls last sh → T (not (empty? last)) → LinesCame from ls (refused 3)
  no_table : {l : List ℕ} {sh : Sheet} → AtLine from ls l sh → OutsideTable sh l → LinesCame from ls (refused 4)
  no_room : {l : List ℕ} {sh sh' : Sheet} → AtLine from ls l sh → InTable sh l sh' → T (over_limits sh') → LinesCame from ls (refused 5)
  read : {sh : Sheet} → AtEnd from ls [] sh → LinesCame from ls (done sh)

-- a line more at the front, which is read
module _ {sh sh₁ : Sheet} {l : List ℕ} {ls : List (List ℕ)} (i : InTable sh l sh₁) (t : T (not (over_limits sh₁))) where
  later_line : {k : List ℕ} {sh₂ : Sheet} → AtLine sh₁ ls k sh₂ → AtLine sh (l ∷ ls) k sh₂
  later_line a =
      record { before = l ∷ a.before; next = a.next; after = a.after; lines = ap (λ (x : List (List ℕ)). l ∷ x) a.lines; reads = ReadInto.line i t a.reads }

  later_end : {k : List ℕ} {sh₂ : Sheet} → AtEnd sh₁ ls k sh₂ → AtEnd sh (l ∷ ls) k sh₂
  later_end a = record { before = l ∷ a.before; lines = ap (λ (x : List (List ℕ)). l ∷ x) a.lines; reads = ReadInto.line i t a.reads }

  later : {o : Outcome Sheet} → LinesCame sh₁ ls o → LinesCame sh (l ∷ ls) o
  later (LinesCame.no_form a f) = LinesCame.no_form (later_line a) f
  later (LinesCame.not_ended a f) = LinesCame.not_ended (later_end a) f
  later (LinesCame.no_table a f) = LinesCame.no_table (later_line a) f
  later (LinesCame.no_room a f u) = LinesCame.no_room (later_line a) f u
  later (LinesCame.read a) = LinesCame.read (later_end a)

first_line : (sh : Sheet) (l l' : List ℕ) (ls : List (List ℕ)) → AtLine sh (l ∷ l' ∷ ls) l sh
first_line sh l l' ls = record { before = []; next = l'; after = ls; lines = refl; reads = ReadInto.nothing }

-- some part there always is
pub lines_came : (l : List ℕ) (ls : List (List ℕ)) (sh : Sheet) → LinesCame sh (l ∷ ls) (read_lines (l ∷ ls) sh)
unfolding read_lines ◌then◌
lines_came l [] sh = by l
  where
    by : (l : List ℕ) → LinesCame sh (l ∷ []) (if empty? l then done sh else refused 3)
    by [] = LinesCame.read (record { before = []; lines = refl; reads = ReadInto.nothing })
    by (x ∷ l) = LinesCame.not_ended (record { before = []; lines = refl; reads = ReadInto.nothing }) tt
lines_came l (l' ∷ ls) sh = on (read_line (line_of l) sh) (line_came sh l) (λ sh₁. lines_came l' ls sh₁)
  where
    on : (o : Outcome Sheet) → LineCame sh l o → ((sh₁ : Sheet) → LinesCame sh₁ (l' ∷ ls) (read_lines (l' ∷ ls) sh₁))
        → LinesCame sh (l ∷ l' ∷ ls) (o then λ sh'. read_lines (l' ∷ ls) sh')
    on _ (LineCame.no_form f) rec = LinesCame.no_form (first_line sh l l' ls) f
    on _ (LineCame.no_table f) rec = LinesCame.no_table (first_line sh l l' ls) f
    on _ (LineCame.no_room f u) rec = LinesCame.no_room (first_line sh l l' ls) f u
    on _ (LineCame.read {sh'} f u) rec = later f u (rec sh')

-- And back: what came so, comes so ------------------------------------------------------------------------------------------------------

pub refuses : {A : Type 0} (n : ℕ) (b : Bool) (o : Outcome A) → T b → (refuse n when b else o) ≡ refused n
unfolding refuse◌when◌else◌
refuses n true o t = refl
refuses n false o t = absurd t

pub goes_on : {A : Type 0} (n : ℕ) (b : Bool) (o : Outcome A) → T (not b) → (refuse n when b else o) ≡ o
unfolding refuse◌when◌else◌
goes_on n true o t = absurd t
goes_on n false o t = refl

pub goes_on_not : {A : Type 0} (n : ℕ) (b : Bool) (o : Outcome A) → T b → (refuse n when not b else o) ≡ o
unfolding refuse◌when◌else◌
goes_on_not n true o t = refl
goes_on_not n false o t = absurd t

in_table : {sh sh' : Sheet} {l : List ℕ} → InTable sh l sh' → read_line (line_of l) sh ≡ (refuse 5 when over_limits sh' else done sh')
unfolding read_line
in_table {sh} (InTable.expr {ns} i p t) =
    ap (λ (o : Option Line). read_line o sh) i ∙ goes_on_not 3 (no_plan sh) _ p ∙ goes_on_not 4 (expr_fits ns) _ t
in_table {sh} (InTable.step {ns} i t) = ap (λ (o : Option Line). read_line o sh) i ∙ goes_on_not 4 (step_fits ns) _ t

pub line_comes : {sh : Sheet} {l : List ℕ} {o : Outcome Sheet} → LineCame sh l o → read_line (line_of l) sh ≡ o
unfolding read_line
line_comes {sh} (LineCame.no_form (NotOfForm.no_line i)) = ap (λ (o : Option Line). read_line o sh) i
line_comes {sh} (LineCame.no_form (NotOfForm.expr_after_step i p)) = ap (λ (o : Option Line). read_line o sh) i ∙ refuses 3 (not (no_plan sh)) _ p
line_comes {sh} (LineCame.no_table (OutsideTable.expr {ns} i p t)) =
    ap (λ (o : Option Line). read_line o sh) i ∙ goes_on_not 3 (no_plan sh) _ p ∙ refuses 4 (not (expr_fits ns)) _ t
line_comes {sh} (LineCame.no_table (OutsideTable.step {ns} i t)) = ap (λ (o : Option Line). read_line o sh) i ∙ refuses 4 (not (step_fits ns)) _ t
line_comes (LineCame.no_room {sh'} i u) = in_table i ∙ refuses 5 (over_limits sh') _ u
line_comes (LineCame.read {sh'} i u) = in_table i ∙ goes_on 5 (over_limits sh') _ u

-- a line that is not the last part decides, or leaves it to the rest
one_line : (l l' : List ℕ) (ls : List (List ℕ)) (sh : Sheet) {o : Outcome Sheet} → LineCame sh l o
    → read_lines (l ∷ l' ∷ ls) sh ≡ (o then λ sh'. read_lines (l' ∷ ls) sh')
unfolding read_lines
one_line l l' ls sh c = ap (λ (o : Outcome Sheet). o then λ sh'. read_lines (l' ∷ ls) sh') (line_comes c)

lines_on : {sh sh' : Sheet} {before : List (List ℕ)} → ReadInto sh before sh' → (l : List ℕ) (ls : List (List ℕ))
    → read_lines (before ++ (l ∷ ls)) sh ≡ read_lines (l ∷ ls) sh'
unfolding ◌then◌
lines_on ReadInto.nothing l ls = refl
lines_on (ReadInto.line {l = k} {sh} i t ReadInto.nothing) l ls = one_line k l ls sh (LineCame.read i t)
lines_on (ReadInto.line {l = k} {sh} i t (ReadInto.line {l = k'} {ls = ks} i' t' r)) l ls =
    one_line k k' (ks ++ (l ∷ ls)) sh (LineCame.read i t) ∙ lines_on (ReadInto.line i' t' r) l ls

at_line : {from sh : Sheet} {ls : List (List ℕ)} {l : List ℕ} {n : ℕ} → AtLine from ls l sh → LineCame sh l (refused n) → read_lines ls from ≡ refused n
unfolding ◌then◌
at_line {from} {sh} {ls} {l} a c =
    ap (λ (x : List (List ℕ)). read_lines x from) a.lines ∙ lines_on a.reads l (a.next ∷ a.after) ∙ one_line l a.next a.after sh c

at_end : {from sh : Sheet} {ls : List (List ℕ)} {l : List ℕ} → AtEnd from ls l sh → read_lines ls from ≡ read_lines (l ∷ []) sh
at_end {from} {sh} {ls} {l} a = ap (λ (x : List (List ℕ)). read_lines x from) a.lines ∙ lines_on a.reads l []

pub lines_come : {from : Sheet} {ls : List (List ℕ)} {o : Outcome Sheet} → LinesCame from ls o → read_lines ls from ≡ o
unfolding read_lines
lines_come (LinesCame.no_form a f) = at_line a (LineCame.no_form f)
lines_come (LinesCame.no_table a f) = at_line a (LineCame.no_table f)
lines_come (LinesCame.no_room a f u) = at_line a (LineCame.no_room f u)
lines_come (LinesCame.read a) = at_end a
lines_come (LinesCame.not_ended {last} {sh} a t) = at_end a ∙ by last t
  where
    by : (l : List ℕ) → T (not (empty? l)) → read_lines (l ∷ []) sh ≡ refused 3
    by [] t = absurd t
    by (x ∷ l) t = refl

-- the parts of a sheet
pub parts_came : (c : ℕ) (s : List ℕ) (sh : Sheet) → LinesCame sh (parts c s) (read_lines (parts c s) sh)
unfolding parts
parts_came c [] sh = lines_came [] [] sh
parts_came c (x ∷ xs) sh = by (eqb x c)
  where
    on : (ls : List (List ℕ)) → LinesCame sh (onto x ls) (read_lines (onto x ls) sh)
    on [] = lines_came (x ∷ []) [] sh
    on (l ∷ ls) = lines_came (x ∷ l) ls sh

    by : (b : Bool) → let ls : List (List ℕ) = elim b [ true ↦ [] ∷ parts c xs | false ↦ onto x (parts c xs) ] in LinesCame sh ls (read_lines ls sh)
    by true = lines_came [] (parts c xs) sh
    by false = on (parts c xs)

-- The assertions ---------------------------------------------------------------------------------------------------------------------------

module _ (l : Looked) where
  is_kind : (k : IR) → T (same_ir k k) → l.step.kind ≡ k → T (same_ir l.step.kind k)
  is_kind k t e = subst (λ (j : IR). T (same_ir j k)) (sym e) t

  pub join_told : T (join_fails (options_of l.step) l.observable) → JoinObserves l
  join_told t =
      let is = same_ir l.step.kind IR.Join in
      let not_elementwise = not (elementwise l.observable) in
      record { kind = same_kind l.step.kind IR.Join (and_left is not_elementwise t); keys = and_right is not_elementwise t }

  pub join_of : JoinObserves l → T (join_fails (options_of l.step) l.observable)
  join_of k = and_both (same_ir l.step.kind IR.Join) (not (elementwise l.observable)) (is_kind IR.Join tt k.kind) k.keys

  pub sink_told : T (sink_fails (options_of l.step) l.observable) → SinkObserves l
  sink_told t =
      let is = same_ir l.step.kind IR.Sink in
      let part = yes? l.step.b in
      let not_elementwise = not (elementwise l.observable) in
      let both = and_left (is && part) not_elementwise t in
      record { kind = same_kind l.step.kind IR.Sink (and_left is part both); partitioned = and_right is part both; keys = and_right (is && part) not_elementwise t }

  pub sink_of : SinkObserves l → T (sink_fails (options_of l.step) l.observable)
  sink_of k =
      let is = same_ir l.step.kind IR.Sink in
      let part = yes? l.step.b in
      and_both (is && part) (not (elementwise l.observable)) (and_both is part (is_kind IR.Sink tt k.kind) k.partitioned) k.keys

-- A visit -------------------------------------------------------------------------------------------------------------------------------

pub data VisitCame (n : ℕ) (r : Run) : Outcome Run → Type 0 where
  join : (let l = looked_in n r in T (join_fails (options_of l.step) l.observable)) → VisitCame n r (refused 10)
  sink : (let l = looked_in n r in T (sink_fails (options_of l.step) l.observable)) → VisitCame n r (refused 11)
  passes : {r' : Run} → VisitCame n r (done r')

pub visit_came : (n : ℕ) (r : Run) → VisitCame n r (simplify_ir_node_orders n r)
unfolding simplify_ir_node_orders settle refusal_number looked_in
visit_came n r = by (goes n r)
  where
    l : Rattle.plan.specs.Visit.Looked
    l = looked_in n r

    on : (a b : Bool) → (T a → T (join_fails (options_of l.step) l.observable)) → (T b → T (sink_fails (options_of l.step) l.observable))
        → VisitCame n r
        (if eqb (if a then 10 else if b then 11 else 0) 0 then done (settled n r) else refused (if a then 10 else if b then 11 else 0))
    on true b f g = VisitCame.join (f tt)
    on false true f g = VisitCame.sink (g tt)
    on false false f g = VisitCame.passes

    by : (b : Bool) → VisitCame n r (if b then done (unlink_node n r) else settle n r)
    by true = VisitCame.passes
    by false = on (join_fails (options_of l.step) l.observable) (sink_fails (options_of l.step) l.observable) (λ t. t) (λ t. t)

-- a Join or a Sink does not go
module _ (n : ℕ) (r : Run) where
  kind_looked : (looked_in n r).step.kind ≡ (Rattle.plan.specs.Sheet.step_at r.steps n).kind
  unfolding looked_in looks_of
  kind_looked = refl

  not_sort : (k : IR) → (looked_in n r).step.kind ≡ k → same_ir k IR.Sort ≡ false → goes n r ≡ false
  unfolding goes
  not_sort k i j =
      let s = Rattle.plan.specs.Sheet.step_at r.steps n in
      ap (λ (x : IR). same_ir x IR.Sort && (Rattle.plan.specs.Visit.out_edge n r.edges).unordered && not (yes? s.b)) (sym kind_looked ∙ i)
      ∙ ap (λ (x : Bool). x && (Rattle.plan.specs.Visit.out_edge n r.edges).unordered && not (yes? s.b)) j

  fails : (k : ℕ) → eqb k 0 ≡ false → goes n r ≡ false → refusal_in n r ≡ k → simplify_ir_node_orders n r ≡ refused k
  unfolding simplify_ir_node_orders settle
  fails k z g i =
      ap (λ (b : Bool). if b then done (unlink_node n r) else settle n r) g
      ∙ ap (λ (x : ℕ). if eqb x 0 then done (settled n r) else refused x) i
      ∙ ap (λ (b : Bool). if b then done (settled n r) else refused k) z

  pub join_comes : (let l = looked_in n r in T (join_fails (options_of l.step) l.observable)) → simplify_ir_node_orders n r ≡ refused 10
  unfolding refusal_number looked_in
  join_comes t =
      let l = looked_in n r in
      let kind = same_kind l.step.kind IR.Join (and_left (same_ir l.step.kind IR.Join) (not (elementwise l.observable)) t) in
      fails 10 refl (not_sort IR.Join kind refl)
      (ap (λ (a : Bool). if a then 10 else if sink_fails (options_of l.step) l.observable then 11 else 0) (true_of (join_fails (options_of l.step) l.observable) t))

  pub sink_comes : (let l = looked_in n r in T (sink_fails (options_of l.step) l.observable)) → simplify_ir_node_orders n r ≡ refused 11
  unfolding refusal_number looked_in
  sink_comes t =
      let l = looked_in n r in
      let is = same_ir l.step.kind IR.Sink in
      let kind = same_kind l.step.kind IR.Sink (and_left is (yes? l.step.b) (and_left (is && yes? l.step.b) (not (elementwise l.observable)) t)) in
      let no_join : join_fails (options_of l.step) l.observable ≡ false = ap (λ (k : IR). same_ir k IR.Join && not (elementwise l.observable)) kind in
      fails 11 refl (not_sort IR.Sink kind refl)
      (ap (λ (a : Bool). if a then 10 else if sink_fails (options_of l.step) l.observable then 11 else 0) no_join
      ∙ ap (λ (b : Bool). if b then 11 else 0) (true_of (sink_fails (options_of l.step) l.observable) t))

-- A walk ----------------------------------------------------------------------------------------------------------------------------------

-- a walk that is refused is so at one of its visits
pub walk_refused : (ns : List ℕ) (r : Run) (k : ℕ) → walk ns r ≡ refused k
    → (n : ℕ) × (v : Run) × Memᴰ (n, v) (trace ns r) × (simplify_ir_node_orders n v ≡ refused k)
unfolding walk_by trace_by ◌then◌
walk_refused [] r k e = no_refusal e
walk_refused (n ∷ ns) r k e = on (simplify_ir_node_orders n r) refl (λ r'. walk_refused ns r' k) e
  where
    on : (o : Outcome Run) → simplify_ir_node_orders n r ≡ o
        → ((r' : Run) → walk ns r' ≡ refused k → (m : ℕ) × (v : Run) × Memᴰ (m, v) (trace ns r') × (simplify_ir_node_orders m v ≡ refused k))
        → (o then λ x. walk ns x) ≡ refused k
        → (m : ℕ) × (v : Run) × Memᴰ (m, v) ((n, r) ∷ then_all o (λ x. trace ns x)) × (simplify_ir_node_orders m v ≡ refused k)
    on (refused j) i rec e = (n, r, Memᴰ.head refl, i ∙ e)
    on (done r') i rec e = let (m, v, t, x) = rec r' e in (m, v, Memᴰ.tail t, x)

-- and one of whose visits is refused, is refused with that number
pub walk_stops : (ns : List ℕ) (r : Run) (n k : ℕ) (v : Run) → Memᴰ (n, v) (trace ns r) → simplify_ir_node_orders n v ≡ refused k → walk ns r ≡ refused k
unfolding walk_by trace_by ◌then◌
walk_stops [] r n k v m x = absurd (Memᴰ.not-nil m)
walk_stops (j ∷ ns) r n k v m x =
    elim (Memᴰ.cases_cons m) [
      | inl i ↦
          let e = subst (λ ((p, q) : ℕ × Run). simplify_ir_node_orders p q ≡ refused k) i x in
          ap (λ (o : Outcome Run). o then λ r'. walk ns r') e
      | inr m' ↦ on (simplify_ir_node_orders j r) (λ r' t. walk_stops ns r' n k v t x) m'
    ]
  where
    on : (o : Outcome Run) → ((r' : Run) → Memᴰ (n, v) (trace ns r') → walk ns r' ≡ refused k) → Memᴰ (n, v) (then_all o (λ r'. trace ns r'))
        → (o then λ r'. walk ns r') ≡ refused k
    on (refused l) f t = absurd (Memᴰ.not-nil t)
    on (done r') f t = f r' t
