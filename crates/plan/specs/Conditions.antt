-- When each number is given (demand 1): a condition of its own for each, in words that name no outcome of reading, checking or
-- walking, so that who exchanges numbers in the definition does not meet it.
use Rattle.std.specs.Prelude.{◌≡◌, ◌⊎◌, ◌≢◌, ℕ, ◌≤◌, ◌<◌, not, T, length}
use mathlib.Core.List.{List, [], ◌∷◌, ◌++◌, Memᴰ}
use Rattle.std.proofs.Math.Option.{none, some}
use Rattle.plan.specs.declared.aexpr.AExpr.{AExpr}
use Rattle.plan.specs.declared.ir.IR.{IR}
use Rattle.plan.specs.Lists.{empty?, yes?, numbered, times, rest}
use Rattle.plan.specs.Sheet.{Expr, Step, Sheet, done, E, P, expr_at, step_at, parts, line_of, expr_fits, expr_of, with_expr, step_fits, step_of, with_step, over_limits, no_lines, too_long, no_plan}
use Rattle.plan.specs.Faults.{Indexed, lines, exprs_named, named, tree}
use Rattle.plan.specs.Graph.{graph}
use Rattle.plan.specs.Visit.{Run, Looked, looked_in, elementwise}
use Rattle.plan.specs.Walks.{begin, down, trace}
use Rattle.plan.specs.Finished.{too_short}

-- the numbers that a call can answer
abbrev pub refusal_numbers : List ℕ
refusal_numbers = 1 ∷ 2 ∷ 3 ∷ 4 ∷ 5 ∷ 6 ∷ 7 ∷ 8 ∷ 9 ∷ 10 ∷ 11 ∷ 12 ∷ 13 ∷ []

-- A line as it is read: 3, 4, 5 ---------------------------------------------------------------------------------------------

-- Of a line l, where the lines before it are read into the sheet sh; l is without its byte 10. Just one of three holds:
-- it is not of the form, or is an E line after a P line;
pub data NotOfForm (sh : Sheet) (l : List ℕ) : Type 0 where
  no_line : line_of l ≡ none → NotOfForm sh l
  expr_after_step : {ns : List ℕ} → line_of l ≡ some (E ns) → T (not (no_plan sh)) → NotOfForm sh l

-- it is of the form, and outside its table;
pub data OutsideTable (sh : Sheet) (l : List ℕ) : Type 0 where
  expr : {ns : List ℕ} → line_of l ≡ some (E ns) → T (no_plan sh) → T (not (expr_fits ns)) → OutsideTable sh l
  step : {ns : List ℕ} → line_of l ≡ some (P ns) → T (not (step_fits ns)) → OutsideTable sh l

-- it is in its table, and with it the sheet is sh'
pub data InTable (sh : Sheet) (l : List ℕ) : Sheet → Type 0 where
  expr : {ns : List ℕ} → line_of l ≡ some (E ns) → T (no_plan sh) → T (expr_fits ns) → InTable sh l (with_expr (expr_of ns) sh)
  step : {ns : List ℕ} → line_of l ≡ some (P ns) → T (step_fits ns) → InTable sh l (with_step (step_of ns) sh)

-- The lines ls are read, one after the other: each is in its table, and the sheet with it within the limits. The sheet sh so far becomes sh'
pub data ReadInto : Sheet → List (List ℕ) → Sheet → Type 0 where
  nothing : {sh : Sheet} → ReadInto sh [] sh
  line : {l : List ℕ} {ls : List (List ℕ)} {sh sh₁ sh₂ : Sheet} → InTable sh l sh₁ → T (not (over_limits sh₁)) → ReadInto sh₁ ls sh₂
      → ReadInto sh (l ∷ ls) sh₂

-- Of the parts of a sheet between its bytes 10: l is a line, that is, another part follows; the lines before it are read into the sheet sh
pub record AtLine (from : Sheet) (ls : List (List ℕ)) (l : List ℕ) (sh : Sheet) : Type 0 where
  pub before : List (List ℕ)
  pub next : List ℕ
  pub after : List (List ℕ)
  pub lines : ls ≡ before ++ (l ∷ next ∷ after)
  pub reads : ReadInto from before sh

-- all lines are read into the sheet sh, and `last` is what stands after the last byte 10
pub record AtEnd (from : Sheet) (ls : List (List ℕ)) (last : List ℕ) (sh : Sheet) : Type 0 where
  pub before : List (List ℕ)
  pub lines : ls ≡ before ++ (last ∷ [])
  pub reads : ReadInto from before sh

-- A line of a sheet that is read: 7, 8, 12, 13, 9 ------------------------------------------------------------------------------

-- it refers to what it may not: a child or an input that is not on an earlier line, a Sink as input, an expression that is no E line
pub data RefersWrong (sh : Sheet) : Indexed → Type 0 where
  child : {i q : ℕ} {e : Expr} → Memᴰ q e.children → i ≤ q → RefersWrong sh (Indexed.expr (i, e))
  input : {n m : ℕ} {s : Step} → Memᴰ m s.inputs → n ≤ m → RefersWrong sh (Indexed.step (n, s))
  sink : {n m : ℕ} {s : Step} → Memᴰ m s.inputs → (step_at sh.steps m).kind ≡ IR.Sink → RefersWrong sh (Indexed.step (n, s))
  expression : {n q : ℕ} {s : Step} → Memᴰ q (s.exprs ++ s.aggs) → length sh.exprs ≤ q → RefersWrong sh (Indexed.step (n, s))

-- nothing names it, and it is no Sink
pub data Unnamed (sh : Sheet) : Indexed → Type 0 where
  expr : {i : ℕ} {e : Expr} → times i (exprs_named sh) ≡ 0 → Unnamed sh (Indexed.expr (i, e))
  step : {n : ℕ} {s : Step} → s.kind ≢ IR.Sink → times n (named sh.steps) ≡ 0 → Unnamed sh (Indexed.step (n, s))

-- it is named more than once, and is neither Sink nor Cache
pub data NamedOften (sh : Sheet) : Indexed → Type 0 where
  expr : {i : ℕ} {e : Expr} → 1 < times i (exprs_named sh) → NamedOften sh (Indexed.expr (i, e))
  step : {n : ℕ} {s : Step} → s.kind ≢ IR.Sink → s.kind ≢ IR.Cache → 1 < times n (named sh.steps) → NamedOften sh (Indexed.step (n, s))

abbrev pub NamedWrong : Sheet → Indexed → Type 0
NamedWrong sh l = Unnamed sh l ⊎ NamedOften sh l

-- it is a Cache line, and another Cache line has its id
pub data SharesId (ps : List Step) : ℕ × Step → Type 0 where
  cache : {n m : ℕ} {s : Step} → s.kind ≡ IR.Cache → m ≢ n → (step_at ps m).kind ≡ IR.Cache → (step_at ps m).a ≡ s.a → SharesId ps (n, s)

-- the record i is or lies under an evaluation child of a StructEval
pub data Evaluated (es : List Expr) (i : ℕ) : Type 0 where
  under : (k q : ℕ) → (expr_at es k).kind ≡ AExpr.StructEval → Memᴰ q (rest (expr_at es k).children) → Memᴰ i (tree es q) → Evaluated es i

pub data FieldOutside (es : List Expr) : ℕ × Expr → Type 0 where
  field : {i : ℕ} {e : Expr} → e.kind ≡ AExpr.StructField → ¬ Evaluated es i → FieldOutside es (i, e)

module _ {A : Type 0} (Wrong : A → Type 0) where
  abbrev pub None : List A → Type 0
  None l = (x : A) → Memᴰ x l → ¬ Wrong x

  -- x is wrong, and none before it is
  pub record First (l : List A) (x : A) : Type 0 where
    pub before : List A
    pub after : List A
    pub split : l ≡ before ++ (x ∷ after)
    pub right : None before
    pub wrong : Wrong x

-- A visit: 10, 11 ----------------------------------------------------------------------------------------------------------------

-- the step n is visited in the state r: on the way down,
abbrev pub Down : Sheet → ℕ → Run → Type 0
Down sh n r = Memᴰ (n, r) (trace (graph sh.steps).0 (begin sh))

-- on the way up, after a downward walk that ended in the state `half`
abbrev pub Up : Run → ℕ → Run → Type 0
Up half n r = Memᴰ (n, r) (trace half.back half)

-- either. A walk ends with the first visit that fails, so all visits before this one have passed
abbrev pub ComesTo : Sheet → ℕ → Run → Type 0
ComesTo sh n r = Down sh n r ⊎ ((half : Run) × (down sh ≡ done half) × Up half n r)

-- the assertions that fail: the keys of a Join, of a partitioned Sink, are not elementwise
pub record JoinObserves (l : Looked) : Type 0 where
  pub kind : l.step.kind ≡ IR.Join
  pub keys : T (not (elementwise l.observable))

pub record SinkObserves (l : Looked) : Type 0 where
  pub kind : l.step.kind ≡ IR.Sink
  pub partitioned : T (yes? l.step.b)
  pub keys : T (not (elementwise l.observable))

-- How far a call comes: each stage has the one before it, and what it adds ---------------------------------------------------------

module _ (s output : List ℕ) where
  -- output and sheet have the length they should
  pub record Enters : Type 0 where
    pub room : T (not (too_short output))
    pub short : T (not (too_long s))

  module _ (sh : Sheet) where
    -- its lines are read into the sheet sh, and nothing stands after the last
    pub record IsRead : Type 0 where
      pub enters : Enters
      pub ends : AtEnd no_lines (parts 10 s) [] sh

    pub record HasPlan : Type 0 where
      pub read : IsRead
      pub plan : T (not (no_plan sh))

    pub record HasReferences : Type 0 where
      pub plan : HasPlan
      pub references : None (RefersWrong sh) (lines sh)

    pub record HasUses : Type 0 where
      pub references : HasReferences
      pub uses : None (NamedWrong sh) (lines sh)

    pub record HasIds : Type 0 where
      pub uses : HasUses
      pub ids : None (SharesId sh.steps) (numbered 0 sh.steps)

    -- it has no fault that can be seen without the walks
    pub record IsTaken : Type 0 where
      pub ids : HasIds
      pub fields : None (FieldOutside sh.exprs) (numbered 0 sh.exprs)

-- The conditions -------------------------------------------------------------------------------------------------------------------

pub data TurnedBack (s output : List ℕ) : ℕ → Type 0 where
  short_output : T (too_short output) → TurnedBack s output 1
  long_sheet : T (not (too_short output)) → T (too_long s) → TurnedBack s output 2
  -- a line, all lines before it being read
  no_form : {l : List ℕ} {sh : Sheet} → Enters s output → AtLine no_lines (parts 10 s) l sh → NotOfForm sh l → TurnedBack s output 3
  not_ended : {last : List ℕ} {sh : Sheet} → Enters s output → AtEnd no_lines (parts 10 s) last sh → T (not (empty? last)) → TurnedBack s output 3
  no_table : {l : List ℕ} {sh : Sheet} → Enters s output → AtLine no_lines (parts 10 s) l sh → OutsideTable sh l → TurnedBack s output 4
  no_room : {l : List ℕ} {sh sh' : Sheet} → Enters s output → AtLine no_lines (parts 10 s) l sh → InTable sh l sh' → T (over_limits sh')
      → TurnedBack s output 5
  -- the sheet, all its lines being read: its first line at fault
  no_step_line : {sh : Sheet} → IsRead s output sh → T (no_plan sh) → TurnedBack s output 6
  references : {sh : Sheet} {l : Indexed} → HasPlan s output sh → First (RefersWrong sh) (lines sh) l → TurnedBack s output 7
  unnamed : {sh : Sheet} {l : Indexed} → HasReferences s output sh → First (NamedWrong sh) (lines sh) l → Unnamed sh l → TurnedBack s output 8
  named_often : {sh : Sheet} {l : Indexed} → HasReferences s output sh → First (NamedWrong sh) (lines sh) l → NamedOften sh l → TurnedBack s output 12
  ids : {sh : Sheet} {x : ℕ × Step} → HasUses s output sh → First (SharesId sh.steps) (numbered 0 sh.steps) x → TurnedBack s output 13
  fields : {sh : Sheet} {x : ℕ × Expr} → HasIds s output sh → First (FieldOutside sh.exprs) (numbered 0 sh.exprs) x → TurnedBack s output 9
  -- a visit, all visits before it having passed
  join : {sh : Sheet} {n : ℕ} {r : Run} → IsTaken s output sh → ComesTo sh n r → JoinObserves (looked_in n r) → TurnedBack s output 10
  sink : {sh : Sheet} {n : ℕ} {r : Run} → IsTaken s output sh → ComesTo sh n r → SinkObserves (looked_in n r) → TurnedBack s output 11
