-- Derivations and the trees that are read: a derivation is a tree that fits, and only one.
use Rattle.std.specs.Prelude.{None, Some}
use mathlib.Core.Path.{◌≡◌, refl, sym, ap, ap₂, ◌∙◌}
use mathlib.Core.List.{List}
use Prim.Native.Nat.{ℕ, suc}
use native.Mathlib.Bridge.{le_prop}
use Rattle.formula.specs.Tokens.{level}
use Rattle.formula.specs.Formula.{Formula, Whole, Tree, tree, bytes, yield}
use Tree.{letter, number, bracket, operator}
use Rattle.formula.specs.Parse.{parse}
use Rattle.formula.proofs.Constructors.{clash, some_same}
use Rattle.formula.proofs.Fits.{Fits}
use Rattle.formula.proofs.Sound.{parsed}
use Rattle.formula.proofs.Complete.{parse_of_bytes}

tree_fits : {k : ℕ} (d : Formula k) → Fits k (tree d)
unfolding tree Fits
tree_fits (Formula.letter b p q) = (p, q)
tree_fits (Formula.number v p) = p
tree_fits (Formula.bracket s d s') = tree_fits d
tree_fits (Formula.operator b p q l s s' r) = (p, q, tree_fits l, tree_fits r)

unfoldable build : (k : ℕ) (t : Tree) → Fits k t → Formula k
unfolding Fits
build k (letter b) f = Formula.letter b f.0 f.1
build k (number v) f = Formula.number v f
build k (bracket s t s') f = Formula.bracket s (build 0 t f) s'
build k (operator l s b s' r) f = Formula.operator b f.0 f.1 (build (level b) l f.2) s s' (build (suc (level b)) r f.3)

tree_build : (k : ℕ) (t : Tree) (f : Fits k t) → tree (build k t f) ≡ t
unfolding tree build Fits
tree_build k (letter b) f = refl
tree_build k (number v) f = refl
tree_build k (bracket s t s') f = ap (λ (x : Tree). bracket s x s') (tree_build 0 t f)
tree_build k (operator l s b s' r) f =
    ap₂ (λ (x y : Tree). operator x s b s' y) (tree_build (level b) l f.2) (tree_build (suc (level b)) r f.3)

build_tree : {k : ℕ} (d : Formula k) (f : Fits k (tree d)) → build k (tree d) f ≡ d
unfolding tree build Fits
build_tree (Formula.letter b p q) f = λ i. Formula.letter b (le_prop f.0 p i) (le_prop f.1 q i)
build_tree (Formula.number v p) f = λ i. Formula.number v (le_prop f p i)
build_tree (Formula.bracket s d s') f = λ i. Formula.bracket s (build_tree d f i) s'
build_tree (Formula.operator b p q l s s' r) f =
    λ i. Formula.operator b (le_prop f.0 p i) (le_prop f.1 q i) (build_tree l f.2 i) s s' (build_tree r f.3 i)

-- two derivations of one tree are equal
same_tree : {k : ℕ} (d d' : Formula k) → tree d ≡ tree d' → d ≡ d'
same_tree {k} d d' p =
    sym (build_tree d (tree_fits d)) ∙ (λ i. build k (p i) (coe 0 i (j. Fits k (p j)) (tree_fits d))) ∙ build_tree d' _

-- The claims --------------------------------------------------------------------------------------------------------------

-- every formula is read as its derivation has it
pub parse_yield : (d : Whole) → parse (yield d) ≡ Some (tree d)
parse_yield d = parse_of_bytes (tree d) (tree_fits d)

-- whatever is read has a derivation, which yields those bytes
pub record ReadAs (w : List ℕ) (t : Tree) : Type 0 where
  pub derivation : Whole
  pub is : tree derivation ≡ t
  pub yields : yield derivation ≡ w

pub read_derived : (w : List ℕ) (t : Tree) → parse w ≡ Some t → ReadAs w t
read_derived w t e =
    let p = parsed w t e in
    record { derivation = build 0 t p.fits; is = tree_build 0 t p.fits; yields = ap bytes (tree_build 0 t p.fits) ∙ p.same }

-- derivations of the same bytes are equal
pub one_reading : (d d' : Whole) → yield d ≡ yield d' → d ≡ d'
one_reading d d' e = same_tree d d' (some_same _ _ (sym (parse_yield d) ∙ ap parse e ∙ parse_yield d'))

pub none_derived : (w : List ℕ) → parse w ≡ None → (d : Whole) → ¬ (yield d ≡ w)
none_derived w e d p = clash (tree d) (sym e ∙ ap parse (sym p) ∙ parse_yield d)
