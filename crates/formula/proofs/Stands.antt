-- A line written behind the lines that stand.
use mathlib.Core.Path.{◌≡◌, ap, ◌∙◌, subst}
use mathlib.Core.List.{List, [], ◌∷◌, ◌++◌, append-nil}
use Prim.Native.Nat.{ℕ, ◌+◌, ◌-◌, ◌≤◌}
use native.Mathlib.Omega.{arith}
use lib.ListN.{length, take, drop, length-append, length-drop}
use lib.Seq.{length-take-le}
use Rattle.plan.specs.Lists.{concat_map}
use Rattle.plan.specs.Sheet.{Expr}
use Rattle.plan.specs.Text.{expr_line}
use Rattle.plan.proofs.ListLaws.{part_from}
use Rattle.writing.specs.Wrote.{Wrote}
use Rattle.writing.proofs.Over.{concat_append, then, wrote_length}
use Rattle.formula.specs.declared.writer.Operand.{Operand}
use Rattle.formula.specs.declared.writer.Writer.{Writer}
use Rattle.formula.specs.Converted.{text}
use Rattle.formula.specs.Written.{Stand, LineMore}

text_more : (es : List Expr) (e : Expr) → text (es ++ (e ∷ [])) ≡ text es ++ expr_line e
unfolding text concat_map
text_more es e = concat_append expr_line es (e ∷ []) ∙ ap (λ v. concat_map expr_line es ++ v) (append-nil (expr_line e))

-- a text u was written into the part that starts at r
module _ (e : Expr) (before y : List ℕ) (r q : ℕ) (w : Wrote (expr_line e) (take (length before - r) (drop r before)) y q) where
  stand_more : (entry : List ℕ) (es : List Expr) (k k' : Writer) → k.written ≡ r → k'.written ≡ r + q → k'.lines ≡ k.lines + 1
      → Stand entry es k before
      → Stand entry (es ++ (e ∷ [])) k' (take r before ++ (y ++ drop (length before - r) (drop r before)))
  stand_more entry es k k' p n l s =
      record {
        wrote = rw (text_more es e, n) (then _ _ _ _ _ _ _ (subst (λ z. Wrote (text es) entry before z) p s.wrote) w);
        lines = l ∙ omega (arith, s.lines, length-append es (e ∷ []));
      }

  size_more : r + q ≤ length before → length (take r before ++ (y ++ drop (length before - r) (drop r before))) ≡ length before
  size_more h =
      let n : length (take (length before - r) (drop r before)) ≡ length before - r = ap length (part_from before r) ∙ length-drop r before in
      let m : length y ≡ length before - r = wrote_length _ _ _ _ (omega (arith, n, w.len)) w ∙ n in
      simp (length-append, length-drop) (omega (arith, m, length-take-le r before (omega arith)))

  pub line_more : (v : Operand) (k k' : Writer) → k.written ≡ r → k'.written ≡ r + q → k'.lines ≡ k.lines + 1 → k'.last ≡ v
      → r + q ≤ length before → LineMore e v k k' before (take r before ++ (y ++ drop (length before - r) (drop r before)))
  line_more v k k' p n l t h =
      record {
        last = t;
        lines = l;
        size = size_more h;
        stand = λ entry es s. stand_more entry es k k' p n l s;
      }
