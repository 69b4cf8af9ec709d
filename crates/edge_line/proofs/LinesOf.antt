-- A text of G lines: its first line, and the lines behind that.
use mathlib.Core.Path.{◌≡◌, refl, ap, ◌∙◌}
use Prim.Native.Nat.{ℕ}
use mathlib.Core.List.{List, [], ◌∷◌, Memᴰ}
use lib.ListN.{length, drop}
use lib.Seq.{drop_at}
use Rattle.plan.specs.Lists.{concat_map}
use Rattle.plan.specs.Graph.{Edge}
use Rattle.plan.specs.Text.{edge_line}
use Rattle.edge_line.specs.EdgeLine.{Begins, LinesOf}

pub no_lines : (text : List ℕ) → LinesOf [] text → text ≡ []
unfolding concat_map
no_lines text l = l.is

module _ (d : Edge) (ds : List Edge) (text : List ℕ) (l : LinesOf (d ∷ ds) text) where
  pub first_line : Begins d text
  unfolding concat_map
  first_line = record { short = l.short d (Memᴰ.head refl); behind = concat_map edge_line ds; is = l.is }

  pub lines_behind : LinesOf ds (drop (length (edge_line d)) text)
  unfolding concat_map
  lines_behind =
      record {
        short = λ e m. l.short e (Memᴰ.tail m);
        is = ap (drop (length (edge_line d))) l.is ∙ drop_at (edge_line d) (concat_map edge_line ds) (length (edge_line d)) refl;
      }
