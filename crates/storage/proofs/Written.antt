-- An arena written out: its records are still base records, since every child is on an earlier line as before.
use mathlib.Core.Path.{◌≡◌, refl, sym, ap, ◌∙◌}
use Prim.Native.Nat.{ℕ, ◌≤◌, ◌<◌}
use native.Mathlib.Omega.{arith}
use mathlib.Core.Bool.{Bool, true, false}
use mathlib.Core.List.{List}
use lib.ListN.{length, get_or}
use Rattle.std.specs.Prelude.{if◌then◌else◌}
use Rattle.plan.specs.Look.{switched_off}
use Rattle.plan.specs.Sheet.{Expr, no_expr}
use Rattle.storage.specs.Stored.{stored_expr, held_expr, arena_of, stored_exprs, ExprFormed}
use Rattle.storage.specs.Based.{Falls, sorts, Based}
use Rattle.storage.specs.declared.stored.Arena.{Arena}
use Rattle.storage.specs.Held.{arena_in}
use Rattle.storage.proofs.Laws.{table_at}

module _ (a : Arena) (recs : List ℕ) (sized : length recs ≡ 2048) (same : stored_exprs recs a.records.count ≡ arena_in a)
    (formed : (l : ℕ) → l < a.records.count → ExprFormed recs l) where
  line_is : (l : ℕ) → l < a.records.count → stored_expr recs l ≡ held_expr a.records.bytes a.lines.holds a.lines.off l
  unfolding stored_exprs arena_of
  line_is l h =
      sym (table_at (stored_expr recs) a.records.count l no_expr h) ∙ ap (λ (es : List Expr). get_or es l no_expr) same
      ∙ table_at (held_expr a.records.bytes a.lines.holds a.lines.off) a.records.count l no_expr h

  kind_and_children : (b : Bool) (e : Expr) → let e' = if b then switched_off e else e in (e'.kind ≡ e.kind) × (e'.children ≡ e.children)
  kind_and_children true e = (refl, refl)
  kind_and_children false e = (refl, refl)

  held_as : (l : ℕ) → let e = stored_expr a.records.bytes (get_or a.lines.holds l 0) in
      let e' = held_expr a.records.bytes a.lines.holds a.lines.off l in (e'.kind ≡ e.kind) × (e'.children ≡ e.children)
  unfolding held_expr
  held_as l = kind_and_children (get_or a.lines.off l false) (stored_expr a.records.bytes (get_or a.lines.holds l 0))

  down : (l : ℕ) → l < a.records.count → get_or a.lines.holds l 0 ≤ l
  down = a.below

  falls : (l : ℕ) → l < a.records.count → Falls l (stored_expr recs l).children
  falls l h =
      let f = a.records.based.falls (get_or a.lines.holds l 0) (omega (arith, down l h)) in
      rw (line_is l h, (held_as l).1) (record { child = λ k j. omega (arith, f.child k j, down l h) })

  sorted : (l : ℕ) → l < a.records.count → sorts (stored_expr recs l).kind ≡ true → 0 < length (stored_expr recs l).children
  sorted l h = rw (line_is l h, (held_as l).0, (held_as l).1) (a.records.based.sorted (get_or a.lines.holds l 0) (omega (arith, down l h)))

  pub written_based : Based recs a.records.count
  written_based =
      record { few = a.records.based.few; room = omega (arith, a.records.based.few, sized); formed = formed; falls = falls; sorted = sorted }
