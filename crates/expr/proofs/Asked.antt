-- What a list of expressions asks, of records that were read from a well-formed sheet or are formed like such.
use mathlib.Core.Path.{◌≡◌, sym, ◌∙◌, subst}
use Prim.Native.Nat.{ℕ, ◌*◌, ◌≤◌, ◌<◌}
use native.Mathlib.Omega.{arith}
use mathlib.Core.Bool.{Bool}
use mathlib.Core.List.{List, Memᴰ}
use lib.Dec.{T}
use lib.ListN.{length, length-take, length-replicate}
use Rattle.plan.specs.Sheet.{Sheet, no_expr, expr_at}
use Rattle.storage.specs.Stored.{stored_expr, stored_exprs, ExprFormed}
use Rattle.storage.specs.declared.entries.Entries.{Entries}
use Rattle.storage.specs.Entries.{list_of}
use Rattle.storage.proofs.Laws.{table_at, length_exprs}
use Rattle.claims.specs.WellFormed.{WellFormed}
use Rattle.plan.proofs.Counts.{mem_at}
use Rattle.claims.proofs.Every.{place_of}
use Rattle.claims.proofs.Changes.{Fits}
use Rattle.claims.proofs.Changes as claims
use Rattle.claims.proofs.Once.{formed_at_start}
use Rattle.claims.proofs.ListFits.{list_fits}
use Rattle.plan.specs.declared.tally.Tally.{Tally}
use Rattle.expr.specs.declared.eos.Eos.{Eos}
use Rattle.storage.specs.Based.{Falls, Based}
use Rattle.expr.specs.State.{State, state, eos_of}
use Rattle.expr.specs.Projected.{no_entries, Started, ListAsks}
use Rattle.storage.specs.Start.{OwnLines, NoneOff}
use Rattle.expr.specs.Read.{ReadExprs}
use Rattle.expr.proofs.Starts.{arena_at_start}
use Rattle.expr.proofs.Starts as starts
use Rattle.expr.proofs.States.{Holds}

-- The stored records -------------------------------------------------------------------------------------------------------------

pub stored_at : (recs : List ℕ) (n l : ℕ) → l < n → expr_at (stored_exprs recs n) l ≡ stored_expr recs l
unfolding stored_exprs
stored_at recs n l h = table_at (stored_expr recs) n l no_expr h

module _ (recs : List ℕ) (n : ℕ) (few : n ≤ 128) (room : n * 16 ≤ length recs) (each : (l : ℕ) → l < n → ExprFormed recs l) where
  -- children are earlier, and a sort has one
  pub based_of_formed : claims.Formed (stored_exprs recs n) → Based recs n
  based_of_formed formed =
      let fits : (l : ℕ) → l < n → Fits l (stored_expr recs l) = λ l h. subst (Fits l) (stored_at recs n l h) (formed l) in
      record {
        few = few;
        room = room;
        formed = each;
        falls = λ l h. record { child = λ k b. (fits l h).earlier _ (mem_at (stored_expr recs l).children k 0 b) };
        sorted = λ l h s. (fits l h).input (subst T (sym s) tt);
      }

  pub based_of_sheet : (sh : Sheet) → WellFormed sh → stored_exprs recs n ≡ sh.exprs → Based recs n
  based_of_sheet sh wf e = based_of_formed (subst claims.Formed (sym e) (formed_at_start sh wf))

-- A list before anything is changed ----------------------------------------------------------------------------------------------

module _ (recs : List ℕ) (n : ℕ) (k : ReadExprs recs n) (line : List ℕ) (off : List Bool) (own : OwnLines line) (on : NoneOff off) (s : Eos) (started : Started s) where
  size : length k.sheet.exprs ≡ n
  size = subst (λ es. length es ≡ n) k.same (length_exprs recs n)

  abbrev start : State
  start = state line off no_entries s

  arena : (tally : Tally) → (eos_of tally recs n start).expr_arena ≡ k.sheet.exprs
  arena tally = rw (started.is tally recs n line off) (arena_at_start recs n k.few line off own on ∙ k.same)

  -- what an arena of them has, whose bytes have room for them
  pub holds_at_start : n * 16 ≤ length recs → Holds recs n start
  holds_at_start room =
      record {
        based = based_of_sheet recs n k.few room k.each k.sheet k.well_formed k.same;
        formed = starts.formed_at_start recs n k.few line off own on s;
      }

  list_asks : (list : Entries) (allow : Bool) → list.count ≤ 8 → length list.nodes ≡ 8 → Falls n (list_of list)
      → ListAsks recs n start list allow
  list_asks list allow short eight falls =
      let none : Tally = record { visits = 0; looks = 0 } in
      let there : (q : ℕ) → Memᴰ q (list_of list) → q < length k.sheet.exprs =
      λ q m. let (i, h, j) = place_of (list_of list) 0 q m in rw size (subst (λ c. c < n) j (falls.child i h)) in
      record {
        cached = length-replicate {A = ℕ} 128 0;
        few = short;
        room = eight;
        falls = falls;
        tally = none;
        fits =
            list_fits k.sheet k.well_formed (list_of list) allow (eos_of none recs n start) (arena none)
            (rw (started.is none recs n line off) (omega arith)) (rw size k.few) (simp length-take (omega (arith, short, eight))) there;
      }

  -- of any records, at most eight: what the list asks, and what the arena that it is looked at in has
  pub asks_at_start : (list : Entries) (allow : Bool) → list.count ≤ 8 → length list.nodes ≡ 8 → Falls n (list_of list)
      → ListAsks recs n start list allow × (n * 16 ≤ length recs → Holds recs n start)
  asks_at_start list allow short eight falls = (list_asks list allow short eight falls, holds_at_start)
