-- What looks do to the expression arena, change by change; no load grows by it.
use mathlib.Core.Path.{◌≡◌, refl, sym, ◌∙◌, subst}
use Prim.Native.Nat.{ℕ, ◌+◌, ◌≤◌, ◌<◌}
use native.Mathlib.Omega.{arith}
use native.Mathlib.Nat.{le_refl, le_trans, not-suc-le-zero}
use native.Mathlib.Decide.{ℕ_discrete, dec_lt}
use mathlib.Core.Bool.{Bool, ◌||◌}
use mathlib.Core.List.Memᴰ
use mathlib.Core.List.{List, [], ◌∷◌, Memᴰ}
use lib.Dec.{T}
use lib.ListN.{length, get_or, set, length-set, get_or-eq_default}
use lib.Seq.{get_or-set_same, get_or-set_other}
use Rattle.plan.specs.declared.aexpr.AExpr.{AExpr}
use Rattle.plan.specs.Kinds.{same_aexpr}
use Rattle.plan.specs.Lists.{sum}
use Rattle.plan.specs.Sheet.{Expr, no_expr, expr_at}
use Rattle.plan.specs.Look.{switched_off}
use Rattle.claims.specs.Limits.{ChildrenEarlier}
use Rattle.plan.proofs.Counts.{sum_le}
use Rattle.claims.proofs.Sums.{sum_part}
use Rattle.claims.proofs.Loads.{kids, load, size, load_kids, kids_same, set_load}

abbrev pub sort? : Expr → Bool
sort? e = same_aexpr e.kind AExpr.Sort || same_aexpr e.kind AExpr.SortBy

abbrev pub implode? : Expr → Bool
implode? e = same_aexpr e.kind AExpr.Implode

-- Arenas -----------------------------------------------------------------------------------------------------------------

-- of the record e at p: its children are earlier, and a sort has one
pub record Fits (p : ℕ) (e : Expr) : Type 0 where
  pub earlier : (c : ℕ) → Memᴰ c e.children → c < p
  pub input : T (sort? e) → 1 ≤ length e.children

abbrev pub Formed : List Expr → Type 0
Formed es = (p : ℕ) → Fits p (expr_at es p)

pub earlier_of : (es : List Expr) → Formed es → ChildrenEarlier es
earlier_of es g p = (g p).earlier

pub nothing_fits : (p : ℕ) → Fits p no_expr
nothing_fits p = record { earlier = λ c m. absurd (Memᴰ.not-nil m); input = λ t. absurd t }

-- what passes a test that the record past the end fails is in the arena
pub in_arena : (test : Expr → Bool) → (T (test no_expr) → ⊥) → (es : List Expr) (p : ℕ) → T (test (expr_at es p)) → p < length es
in_arena test fails es p t = by (dec_lt p (length es))
  where
    by : Dec (p < length es) → p < length es
    by (yes h) = h
    by (no n) = absurd (fails (subst (λ (e : Expr). T (test e)) (get_or-eq_default es no_expr (omega arith)) t))

formed_set : (es : List Expr) (p : ℕ) (e : Expr) → Formed es → p < length es → Fits p e → Formed (set es p e)
formed_set es p e g h k q = by (ℕ_discrete q p)
  where
    by : Dec (q ≡ p) → Fits q (expr_at (set es p e) q)
    by (yes i) = subst (λ n. Fits n (expr_at (set es p e) n)) (sym i) (subst (Fits p) (sym (get_or-set_same es p e no_expr h)) k)
    by (no n) = subst (Fits q) (sym (get_or-set_other es p q e no_expr n)) (g q)

-- One change -------------------------------------------------------------------------------------------------------------

first_kid : (cs : List ℕ) → 1 ≤ length cs → Memᴰ (get_or cs 0 0) cs
first_kid [] h = absurd (not-suc-le-zero h)
first_kid (c ∷ cs) h = Memᴰ.head refl

-- a sort takes its first child's record
abbrev pub input_of : List Expr → ℕ → ℕ
input_of es p = get_or (kids es p) 0 0

abbrev pub with_input_at : List Expr → ℕ → List Expr
with_input_at es p = set es p (expr_at es (input_of es p))

module _ (es : List Expr) (g : Formed es) (p : ℕ) (k : T (sort? (expr_at es p))) where
  pub sort_inside : p < length es
  sort_inside = in_arena sort? (λ t. t) es p k

  pub input_kid : Memᴰ (input_of es p) (kids es p)
  input_kid = first_kid (kids es p) ((g p).input k)

  pub input_formed : Formed (with_input_at es p)
  input_formed =
      let q = input_of es p in
      formed_set es p (expr_at es q) g sort_inside
      (record { earlier = λ c m. omega (arith, (g q).earlier c m, (g p).earlier q input_kid); input = (g q).input })

  input_load : (w : ℕ → ℕ) (q : ℕ) → load w (with_input_at es p) q ≤ load w es q
  input_load w q =
      set_load w es p (expr_at es (input_of es p)) (earlier_of es g) (earlier_of (with_input_at es p) input_formed) sort_inside
      (omega (arith, load_kids w es (earlier_of es g) (input_of es p), sum_part (load w es) (kids es p) (input_of es p) input_kid)) q

  -- its own tree has one record less
  pub input_size : size (with_input_at es p) p + 1 ≤ size es p
  input_size =
      let one : ℕ → ℕ = λ _. 1 in
      let es' = with_input_at es p in
      let q = input_of es p in
      let same = kids_same es p (expr_at es q) sort_inside in
      let below = sum_le (load one es') (load one es) (kids es q) (λ c _. input_load one c) in
      let own : load one es' p ≡ 1 + sum (load one es') (kids es q) =
      subst (λ (l : List ℕ). load one es' p ≡ 1 + sum (load one es') l) same (load_kids one es' (earlier_of es' input_formed) p) in
      omega (arith, load_kids one es (earlier_of es g) q, load_kids one es (earlier_of es g) p, sum_part (load one es) (kids es p) q input_kid)

-- an Implode is switched off
abbrev pub off_at : List Expr → ℕ → List Expr
off_at es p = set es p (switched_off (expr_at es p))

module _ (es : List Expr) (g : Formed es) (p : ℕ) (k : T (implode? (expr_at es p))) where
  pub implode_inside : p < length es
  implode_inside = in_arena implode? (λ t. t) es p k

  pub off_formed : Formed (off_at es p)
  off_formed = formed_set es p (switched_off (expr_at es p)) g implode_inside (record { earlier = (g p).earlier; input = (g p).input })

  off_load : (w : ℕ → ℕ) (q : ℕ) → load w (off_at es p) q ≤ load w es q
  off_load w q =
      set_load w es p (switched_off (expr_at es p)) (earlier_of es g) (earlier_of (off_at es p) off_formed) implode_inside (le_refl _) q

-- Changes one after another ----------------------------------------------------------------------------------------------

-- from an arena to `end`
pub data Changes (end : List Expr) : List Expr → Type 0 where
  no_change : Changes end end
  takes_input : {es : List Expr} (p : ℕ) → T (sort? (expr_at es p)) → Changes end (with_input_at es p) → Changes end es
  goes_off : {es : List Expr} (p : ℕ) → T (implode? (expr_at es p)) → Changes end (off_at es p) → Changes end es

pub changes_on : {b a c : List Expr} → Changes b a → Changes c b → Changes c a
changes_on no_change f = f
changes_on (takes_input p t e) f = takes_input p t (changes_on e f)
changes_on (goes_off p t e) f = goes_off p t (changes_on e f)

pub changed_length : {end es : List Expr} → Changes end es → length end ≡ length es
changed_length no_change = refl
changed_length (takes_input p t c) = changed_length c ∙ simp length-set
changed_length (goes_off p t c) = changed_length c ∙ simp length-set

pub changed_formed : {end es : List Expr} → Changes end es → Formed es → Formed end
changed_formed no_change g = g
changed_formed (takes_input {es} p t c) g = changed_formed c (input_formed es g p t)
changed_formed (goes_off {es} p t c) g = changed_formed c (off_formed es g p t)

pub changed_load : {end es : List Expr} → Changes end es → Formed es → (w : ℕ → ℕ) (q : ℕ) → load w end q ≤ load w es q
changed_load no_change g w q = le_refl _
changed_load (takes_input {es} p t c) g w q =
    le_trans (changed_load c (input_formed es g p t) w q) (input_load es g p t w q)
changed_load (goes_off {es} p t c) g w q =
    le_trans (changed_load c (off_formed es g p t) w q) (off_load es g p t w q)

pub changed_loads : {end es : List Expr} → Changes end es → Formed es → (w : ℕ → ℕ) (qs : List ℕ) → sum (load w end) qs ≤ sum (load w es) qs
changed_loads c g w qs = sum_le _ _ qs (λ q _. changed_load c g w q)
