-- The edges after they are loosened and relinked, from what the loops do to the array.
use Rattle.std.specs.Prelude.{if◌then◌else◌}
use mathlib.Core.Path.{◌≡◌, refl, sym, ap, ap₂, ◌∙◌, subst}
use mathlib.Core.Logic.{◌≢◌, ◌⊎◌, inl, inr}
use Prim.Native.Nat.{ℕ, ◌+◌, ◌≤◌, ◌<◌}
use native.Mathlib.Omega.{arith}
use native.Mathlib.Decide.{dec_lt, ℕ_discrete}
use mathlib.Core.Bool.{Bool, true, false, ◌&&◌, ◌||◌, not, or-false, or-true}
use mathlib.Core.List.{List, [], ◌∷◌, map}
use mathlib.Core.Option.{Option, none}
use lib.Dec.{eqb}
use Rattle.plan.specs.Graph.{Edge}
use Rattle.plan.specs.declared.rules.Loosened.{Loosened}
use Rattle.plan.specs.Visit.{is_into, is_out_of, loosened, relinked}
use Rattle.storage.specs.Edges.{producer_of, stored_edge, stored_edges, with_mark, with_producer, loosened_if, produced_if, EdgeChanged}
use Rattle.storage.proofs.Laws.{same_table}
use Rattle.node_rules.specs.declared.in_edges.InEdges.{InEdges}
use Rattle.node_rules.specs.Held.{InRun, ins_of, outs_of, handed_on, cut_off}
use Rattle.node_rules.proofs.EdgeLaws.{map_table}
use Rattle.node_rules.proofs.InEdges.{inside, outside}

map_twice : {A : Type 0} (f g h : A → A) → ((x : A) → f (g x) ≡ h x) → (l : List A) → map f (map g l) ≡ map h l
map_twice f g h e [] = refl
map_twice {A} f g h e (x ∷ l) = ap₂ (λ (y : A) (r : List A). y ∷ r) (e x) (map_twice f g h e l)

map_same : {A : Type 0} (f : A → A) → ((x : A) → f x ≡ x) → (l : List A) → map f l ≡ l
map_same f e [] = refl
map_same {A} f e (x ∷ l) = ap₂ (λ (y : A) (r : List A). y ∷ r) (e x) (map_same f e l)

-- A loop that changes edges, one after the other -------------------------------------------------------------------------------------

-- those from a up to i are changed, the others as they were
pub record Changed (change : Edge → Edge) (ends old now : List ℕ) (a i : ℕ) : Type 0 where
  pub done : (j : ℕ) → j < 256 → a ≤ j → j < i → stored_edge ends now j ≡ change (stored_edge ends old j)
  pub rest : (j : ℕ) → j < 256 → (j < a) ⊎ (i ≤ j) → stored_edge ends now j ≡ stored_edge ends old j

module _ (change : Edge → Edge) (ends old : List ℕ) (a : ℕ) where
  pub none_changed : Changed change ends old old a a
  none_changed = record { done = λ j h k l. absurd (omega arith); rest = λ j h k. refl }

  -- the i-th and no other: `one` is what is done to it
  pub one_changed : (l l' : List ℕ) (i : ℕ) → a ≤ i → i < 256 → (one : Edge → Edge) → EdgeChanged one ends i l l' → one (stored_edge ends l i) ≡ change (stored_edge ends l i)
      → Changed change ends old l a i → Changed change ends old l' a (i + 1)
  one_changed l l' i b h one s e c =
      record { done = λ j k m n. by j k m n (ℕ_discrete j i); rest = λ j k o. s.elsewhere j k (apart j o) ∙ c.rest j k (still j o) }
    where
      apart : (j : ℕ) → (j < a) ⊎ (i + 1 ≤ j) → j ≢ i
      apart j (inl x) e = omega (arith, x, e)
      apart j (inr x) e = omega (arith, x, e)

      still : (j : ℕ) → (j < a) ⊎ (i + 1 ≤ j) → (j < a) ⊎ (i ≤ j)
      still j (inl x) = inl x
      still j (inr x) = inr (omega (arith, x))

      by : (j : ℕ) → j < 256 → a ≤ j → j < i + 1 → Dec (j ≡ i) → stored_edge ends l' j ≡ change (stored_edge ends old j)
      by j k m n (yes x) =
          subst (λ (q : ℕ). stored_edge ends l' q ≡ change (stored_edge ends old q)) (sym x) (s.here ∙ e ∙ ap change (c.rest i h (inr (omega arith))))
      by j k m n (no x) = s.elsewhere j k x ∙ c.done j k m (omega (arith, x))

module _ (ends old now : List ℕ) (len : ℕ) (few : len ≤ 256) where
  each_edge : (change : Edge → Edge) → ((j : ℕ) → j < len → stored_edge ends now j ≡ change (stored_edge ends old j))
      → stored_edges ends now len ≡ map change (stored_edges ends old len)
  unfolding stored_edges
  each_edge change h =
      same_table (stored_edge ends now) (λ j. change (stored_edge ends old j)) len h ∙ sym (map_table change (stored_edge ends old) 0 len)

  pub all_changed : (change : Edge → Edge) (i : ℕ) → len ≤ i → Changed change ends old now 0 i
      → stored_edges ends now len ≡ map change (stored_edges ends old len)
  all_changed change i h c = each_edge change (λ j k. c.done j (omega arith) (omega arith) (omega arith))

  -- the edges into n, which are the run d
  pub run_changed : (d : InEdges) → InRun ends len d → (change whole : Edge → Edge)
      → ((e : Edge) → is_into d.of e ≡ true → change e ≡ whole e) → ((e : Edge) → is_into d.of e ≡ false → e ≡ whole e)
      → (i : ℕ) → d.to ≤ i → i ≤ d.to → Changed change ends old now d.from i
      → stored_edges ends now len ≡ map whole (stored_edges ends old len)
  unfolding stored_edge
  run_changed d run change whole those others i a b c = each_edge whole (λ j h. by j h (dec_lt j d.from) (dec_lt j d.to))
    where
      out : (j : ℕ) → j < len → (j < d.from) ⊎ (d.to ≤ j) → (j < d.from) ⊎ (i ≤ j) → stored_edge ends now j ≡ whole (stored_edge ends old j)
      out j h x y = c.rest j (omega arith) y ∙ others (stored_edge ends old j) (outside ends old len d run j h x)

      by : (j : ℕ) → j < len → Dec (j < d.from) → Dec (j < d.to) → stored_edge ends now j ≡ whole (stored_edge ends old j)
      by j h (yes x) y = out j h (inl x) (inl x)
      by j h (no x) (yes y) =
          c.done j (omega arith) (omega (arith, x)) (omega (arith, y)) ∙ those (stored_edge ends old j) (inside ends old len d run j (omega (arith, x)) y)
      by j h (no x) (no y) = out j h (inr (omega (arith, y))) (inr (omega (arith, y)))

-- Loosened ---------------------------------------------------------------------------------------------------------------------------

not_in : (i z : Bool) → (i && (if z then false else false)) ≡ false
not_in true true = refl
not_in true false = refl
not_in false z = refl

-- neither slot 0 nor the later ones
pub neither : (l : Loosened) → not (l.in0 || l.later) ≡ true → (l.in0 ≡ false) × (l.later ≡ false)
neither l e = by l.in0 l.later e
  where
    by : (a b : Bool) → not (a || b) ≡ true → (a ≡ false) × (b ≡ false)
    by true b e = let z : ◌≡◌ {A = ℕ} 0 1 = cc in absurd (omega arith)
    by false true e = let z : ◌≡◌ {A = ℕ} 0 1 = cc in absurd (omega arith)
    by false false e = (refl, refl)

-- nothing is loosened
pub none_loosened : (n : ℕ) (l : Loosened) → l.in0 ≡ false → l.later ≡ false → l.out ≡ false → (ds : List Edge) → ds ≡ map (loosened n l) ds
none_loosened n l a b c ds = sym (map_same (loosened n l) one ds)
  where
    by : (u o x : Bool) → x ≡ false → (u || x || (o && false)) ≡ u
    by true o x e = refl
    by false true x e = rw e
    by false false x e = rw e

    one : (d : Edge) → loosened n l d ≡ d
    one d =
        rw (a, b, c)
        (ap (λ (u : Bool). with_mark u d) (by d.unordered (is_out_of n d) _ (not_in (is_into n d) (eqb d.slot 0))))

-- those in, then those out
pub both_loosened : (n : ℕ) (l : Loosened) (ds : List Edge) → map (loosened n (outs_of l.out)) (map (loosened n (ins_of l)) ds) ≡ map (loosened n l) ds
both_loosened n l ds = map_twice (loosened n (outs_of l.out)) (loosened n (ins_of l)) (loosened n l) one ds
  where
    by : (w o x : Bool) → x ≡ false → ((w || (o && false)) || x || (o && l.out)) ≡ (w || (o && l.out))
    by true o x e = refl
    by false true x e = rw e
    by false false x e = rw e

    one : (d : Edge) → loosened n (outs_of l.out) (loosened n (ins_of l) d) ≡ loosened n l d
    one d =
        ap (λ (u : Bool). with_mark u d)
        (by (d.unordered || (is_into n d && (if eqb d.slot 0 then l.in0 else l.later))) (is_out_of n d) _ (not_in (is_into n d) (eqb d.slot 0)))

-- an edge into the step
abbrev pub in_loosened : Loosened → Edge → Edge
in_loosened l d = loosened_if (if eqb d.slot 0 then l.in0 else l.later) d

-- an edge that may leave it
pub out_loosened : (n : ℕ) (d : Edge) (o : Bool) → o ≡ is_out_of n d → loosened_if o d ≡ loosened n (outs_of true) d
out_loosened n d o e = rw e (ap (λ (u : Bool). with_mark u d) (by (is_into n d) (is_out_of n d) d.unordered (eqb d.slot 0)))
  where
    by : (i o u z : Bool) → (u || o) ≡ (u || (i && (if z then false else false)) || (o && true))
    by i o true z = refl
    by i true false z = rw (not_in i z)
    by i false false z = rw (not_in i z)

pub out_handed_on : (n from : ℕ) (d : Edge) (o : Bool) → o ≡ is_out_of n d → produced_if o from d ≡ handed_on n (producer_of from) d
out_handed_on n from d o e = ap (λ (b : Bool). produced_if b from d) e

-- an edge into a removed sort
abbrev pub in_cut_off : Edge → Edge
in_cut_off d = loosened_if true (produced_if true 255 d)

pub both_changed : {f g : Edge → Edge} {ends : List ℕ} {k : ℕ} {l l' l'' : List ℕ} → EdgeChanged f ends k l l' → EdgeChanged g ends k l' l''
    → EdgeChanged (λ d. g (f d)) ends k l l''
both_changed {g = g} s s' = record { here = s'.here ∙ ap g s.here; elsewhere = λ j h d. s'.elsewhere j h d ∙ s.elsewhere j h d }

module _ (ends old now : List ℕ) (len : ℕ) (few : len ≤ 256) (d : InEdges) (run : InRun ends len d) (i : ℕ) (h : d.to ≤ i) (h' : i ≤ d.to) where
  pub ins_loosened : (l : Loosened) → Changed (in_loosened l) ends old now d.from i
      → stored_edges ends now len ≡ map (loosened d.of (ins_of l)) (stored_edges ends old len)
  ins_loosened l c =
      run_changed ends old now len few d run (in_loosened l) (loosened d.of (ins_of l))
      (λ e t. ap (λ (u : Bool). with_mark u e) (those (is_into d.of e) (is_out_of d.of e) e.unordered (if eqb e.slot 0 then l.in0 else l.later) t))
      (λ e f. ap (λ (u : Bool). with_mark u e) (others (is_into d.of e) (is_out_of d.of e) e.unordered (if eqb e.slot 0 then l.in0 else l.later) f))
      i h h' c
    where
      those : (i o u x : Bool) → i ≡ true → (u || x) ≡ (u || (i && x) || (o && false))
      those i o true x t = refl
      those i true false x t = rw t (sym (or-false x))
      those i false false x t = rw t (sym (or-false x))

      others : (i o u x : Bool) → i ≡ false → u ≡ (u || (i && x) || (o && false))
      others i o true x f = refl
      others i true false x f = rw f
      others i false false x f = rw f

  pub ins_cut_off : Changed in_cut_off ends old now d.from i → stored_edges ends now len ≡ map (cut_off d.of) (stored_edges ends old len)
  ins_cut_off c = run_changed ends old now len few d run in_cut_off (cut_off d.of) (λ e t. rw (t, or-true e.unordered)) (λ e f. rw f) i h h' c

-- Both ways --------------------------------------------------------------------------------------------------------------------------

-- those out handed on, then those in cut off
pub both_relinked : (n : ℕ) (from : Option ℕ) (ds : List Edge) → map (cut_off n) (map (handed_on n from) ds) ≡ map (relinked n from) ds
both_relinked n from ds = map_twice (cut_off n) (handed_on n from) (relinked n from) one ds
  where
    one : (d : Edge) → cut_off n (handed_on n from d) ≡ relinked n from d
    one d = by (is_out_of n d)
      where
        next : Bool → Edge
        next o = if o then with_producer from d else d

        by : (o : Bool) → cut_off n (next o) ≡ (if is_into n d then with_mark true (with_producer none d) else next o)
        by true = refl
        by false = refl
