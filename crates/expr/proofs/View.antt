-- The code's lines and the definition's arena: reading a line, copying one over another, switching one off; an entry of the cache.
use Rattle.std.specs.Prelude.{if◌then◌else◌}
use mathlib.Core.Path.{◌≡◌, refl, sym, ◌∙◌, fun_ext}
use Prim.Native.Nat.{ℕ, ◌<◌}
use mathlib.Core.Bool.{Bool, true, false, ◌||◌, or-false}
use mathlib.Core.List.{List}
use Rattle.std.specs.Prelude.{Option, None, Some}
use lib.Dec.{eqb}
use lib.ListN.{length, get_or, set, length-set}
use lib.Seq.{ext_get_or, get_or-set_same, get_or-set_other, set-get_or}
use borrow.Author.Tests.{eqb-true, eqb-false}
use Rattle.plan.specs.declared.orders.ObservableOrders.{ObservableOrders}
use Rattle.plan.specs.Sheet.{no_expr, expr_at}
use Rattle.plan.specs.Look.{with_entry, switched_off}
use Rattle.storage.specs.Stored.{held_expr, arena_of}
use Rattle.storage.proofs.Laws.{length_arena, table_at}
use Rattle.expr.specs.Cache.{cache_of}
use Rattle.storage.specs.Exprs.{held}

-- The arena ----------------------------------------------------------------------------------------------------------------------

module _ (recs : List ℕ) (n : ℕ) where
  pub arena_at : (line : List ℕ) (off : List Bool) (p : ℕ) → p < n → expr_at (arena_of recs line off n) p ≡ held recs (get_or line p 0) (get_or off p false)
  unfolding arena_of held_expr held
  arena_at line off p h = table_at (held_expr recs line off) n p no_expr h

  module _ (line : List ℕ) (off : List Bool) (p : ℕ) (within : p < n) where
    -- line p changed, and no other
    module _ (line' : List ℕ) (off' : List Bool)
        (others : (q : ℕ) → (q ≡ p → ⊥) → held recs (get_or line' q 0) (get_or off' q false) ≡ held recs (get_or line q 0) (get_or off q false)) where
      at_each : (q : ℕ) → q < n → (t : Bool) → eqb q p ≡ t
          → get_or (arena_of recs line' off' n) q no_expr ≡ get_or (set (arena_of recs line off n) p (held recs (get_or line' p 0) (get_or off' p false))) q no_expr
      at_each q h true i =
          rw (eqb-true q p i)
          (arena_at line' off' p within
          ∙ sym (get_or-set_same (arena_of recs line off n) p (held recs (get_or line' p 0) (get_or off' p false)) no_expr (rw (length_arena recs line off n) within)))
      at_each q h false i =
          arena_at line' off' q h ∙ others q (eqb-false q p i) ∙ sym (arena_at line off q h)
          ∙ sym (get_or-set_other (arena_of recs line off n) p q (held recs (get_or line' p 0) (get_or off' p false)) no_expr (eqb-false q p i))

      pub arena_written : arena_of recs line' off' n ≡ set (arena_of recs line off n) p (held recs (get_or line' p 0) (get_or off' p false))
      arena_written =
          ext_get_or no_expr _ _
          (length_arena recs line' off' n ∙ sym (length-set (arena_of recs line off n) p (held recs (get_or line' p 0) (get_or off' p false)) ∙ length_arena recs line off n))
          (λ q h. at_each q (rw (length_arena recs line' off' n) at h) (eqb q p) refl)

    -- line c copied over line p
    pub arena_copied : (c : ℕ) → c < n → p < length line → p < length off
        → arena_of recs (set line p (get_or line c 0)) (set off p (get_or off c false)) n ≡ set (arena_of recs line off n) p (expr_at (arena_of recs line off n) c)
    arena_copied c h i j =
        arena_written (set line p (get_or line c 0)) (set off p (get_or off c false))
        (λ q k. rw (get_or-set_other line p q (get_or line c 0) 0 k, get_or-set_other off p q (get_or off c false) false k))
        ∙ rw (get_or-set_same line p (get_or line c 0) 0 i, get_or-set_same off p (get_or off c false) false j, arena_at line off c h)

    -- line p switched off where x says so
    off_or : (l : ℕ) (a : Bool) → held recs l (a || true) ≡ switched_off (held recs l a)
    unfolding held
    off_or l true = refl
    off_or l false = refl

    pub arena_off : (x : Bool) → p < length off
        → arena_of recs line (set off p (get_or off p false || x)) n
        ≡ (if x then set (arena_of recs line off n) p (switched_off (expr_at (arena_of recs line off n) p)) else arena_of recs line off n)
    arena_off true j =
        arena_written line (set off p (get_or off p false || true))
        (λ q k. rw (get_or-set_other off p q (get_or off p false || true) false k))
        ∙ rw (get_or-set_same off p (get_or off p false || true) false j, off_or (get_or line p 0) (get_or off p false), arena_at line off p within)
    arena_off false j = rw (or-false (get_or off p false), set-get_or off p false)

-- The cache ----------------------------------------------------------------------------------------------------------------------

module _ (entries : List (Option ObservableOrders)) (p : ℕ) (within : p < length entries) (o : ObservableOrders) where
  entry_at : (q : ℕ) (t : Bool) → eqb q p ≡ t → cache_of (set entries p (Some o)) q ≡ with_entry p o (cache_of entries) q
  unfolding cache_of
  entry_at q true i = rw (i, eqb-true q p i, get_or-set_same entries p (Some o) None within)
  entry_at q false i = rw (i, get_or-set_other entries p q (Some o) None (eqb-false q p i))

  pub cache_written : (c : Bool)
      → cache_of (set entries p (if c then Some o else get_or entries p None)) ≡ (if c then with_entry p o (cache_of entries) else cache_of entries)
  cache_written true = fun_ext (λ q. entry_at q (eqb q p) refl)
  cache_written false = rw (set-get_or entries p None)
