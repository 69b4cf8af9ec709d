-- Each number is given exactly under its condition: a refusal has its condition, and a condition has its number.
use mathlib.Core.Path.{◌≡◌, refl, ap, sym, ◌∙◌, subst}
use mathlib.Core.Logic.{◌⊎◌, inl, inr, ◌≢◌}
use Prim.Native.Nat.{ℕ, zero, suc}
use native.Mathlib.Omega.{arith}
use mathlib.Core.Bool.{Bool, true, false, not}
use mathlib.Core.List.{List, [], ◌++◌, map, Memᴰ}
use lib.Dec.{T, leb, leb→le}
use Rattle.plan.specs.Lists.{sum, concat_map, numbered, times}
use Rattle.plan.specs.Sheet.{Sheet, Outcome, refused, done, ◌then◌, refuse◌when◌else◌, read_lines, no_lines, too_long, no_plan, parts, read}
use Rattle.plan.specs.Faults.{Indexed, lines, references_right, uses, named_right, use_number, id_right, field_right, reference_fault, use_fault, id_fault, field_fault, passes, first_fault, refused_by, checked}
use Rattle.plan.specs.Graph.{graph}
use Rattle.plan.specs.Visit.{Run, simplify_ir_node_orders, looked_in}
use Rattle.plan.specs.Walks.{begin, down, up, updated, simplify_and_fetch_orderings}
use Rattle.plan.specs.Finished.{run, too_short}
use Rattle.plan.specs.Conditions.{refusal_numbers, RefersWrong, NamedWrong, SharesId, FieldOutside, First, AtEnd, Enters, IsRead, HasPlan, HasReferences, HasUses, HasIds, IsTaken, ComesTo, TurnedBack}
use Rattle.plan.proofs.Outcomes.{same_value, both_done, passed}
use Rattle.plan.proofs.Counts.{stands_in}
use Rattle.plan.proofs.Passes.{Pass, pass_came, pass_none, pass_stops, pass_goes}
use Rattle.plan.proofs.LineFaults.{refers_wrong, refers_right, named_wrong, names_right, unnamed_number, often_number, uses_given, shares_id, ids_right, field_outside, fields_right}
use Rattle.plan.proofs.Conditions.{same_number, no_refusal, refuses, goes_on, LinesCame, parts_came, lines_come, VisitCame, visit_came, join_told, join_of, sink_told, sink_of, join_comes, sink_comes, walk_refused, walk_stops}

-- What a refusal came from --------------------------------------------------------------------------------------------------------------

refused_then : {A B : Type 0} (o : Outcome A) (f : A → Outcome B) {n : ℕ} → (o then f) ≡ refused n → (o ≡ refused n) ⊎ ((x : A) × (o ≡ done x) × (f x ≡ refused n))
unfolding ◌then◌
refused_then (refused m) f e = inl (ap refused (same_number e))
refused_then (done x) f e = inr (x, refl, e)

refused_when : {A : Type 0} (k : ℕ) (b : Bool) (o : Outcome A) {n : ℕ} → (refuse k when b else o) ≡ refused n → ((k ≡ n) × T b) ⊎ (T (not b) × (o ≡ refused n))
unfolding refuse◌when◌else◌
refused_when k true o e = inl (same_number e, tt)
refused_when k false o e = inr (tt, e)

-- The passes: the test of each tells the lines that are wrong, and gives their numbers -------------------------------------------------

module _ (sh : Sheet) where
  references_pass : Pass (references_right sh) (RefersWrong sh) (λ _. 7) (lines sh)
  references_pass = record { tells = record { fails = λ l _. refers_wrong sh l; passes = λ l _. refers_right sh l }; given = λ _ e. omega arith }

  uses_pass : Pass (named_right sh) (NamedWrong sh) (λ l. use_number (uses sh l)) (lines sh)
  uses_pass = record { tells = record { fails = λ l _. named_wrong sh l; passes = λ l _. names_right sh l }; given = uses_given sh }

  ids_pass : Pass (id_right sh.steps) (SharesId sh.steps) (λ _. 13) (numbered 0 sh.steps)
  ids_pass = record { tells = record { fails = shares_id sh.steps; passes = ids_right sh.steps }; given = λ _ e. omega arith }

  fields_pass : Pass (field_right sh.exprs) (FieldOutside sh.exprs) (λ _. 9) (numbered 0 sh.exprs)
  fields_pass = record { tells = record { fails = λ x _. field_outside sh.exprs x; passes = λ x _. fields_right sh.exprs x }; given = λ _ e. omega arith }

  -- the numbers that are left after a pass
  abbrev after_ids : List ℕ
  after_ids = map (field_fault sh) (numbered 0 sh.exprs) ++ []

  abbrev after_uses : List ℕ
  after_uses = map (id_fault sh) (numbered 0 sh.steps) ++ after_ids

  abbrev after_references : List ℕ
  after_references = map (use_fault sh) (lines sh) ++ after_uses

  abbrev all_faults : List ℕ
  all_faults = map (reference_fault sh) (lines sh) ++ after_references

  by_passes : checked sh ≡ refused_by sh (first_fault all_faults)
  unfolding checked passes concat_map
  by_passes = refl

  given : (m n : ℕ) → refused_by sh m ≡ refused n → (m ≡ n) × (n ≢ 0)
  given zero n e = no_refusal e
  given (suc m) n e = (same_number e, λ z. omega (arith, same_number e, z))

  none_given : (m : ℕ) {sh' : Sheet} → refused_by sh m ≡ done sh' → (m ≡ 0) × (sh ≡ sh')
  none_given zero e = (refl, same_value e)
  none_given (suc m) e = no_refusal (sym e)

-- A number has its condition --------------------------------------------------------------------------------------------------------------

module _ (s output : List ℕ) (room : T (not (too_short output))) where
  abbrev Back : ℕ → Type 0
  Back n = TurnedBack s output n

  is_read : (sh : Sheet) → T (not (too_long s)) → read_lines (parts 10 s) no_lines ≡ done sh → IsRead s output sh
  is_read sh short e = by (read_lines (parts 10 s) no_lines) (parts_came 10 s no_lines) e
    where
      by : (o : Outcome Sheet) → LinesCame no_lines (parts 10 s) o → o ≡ done sh → IsRead s output sh
      by _ (LinesCame.no_form a f) e = no_refusal (sym e)
      by _ (LinesCame.not_ended a f) e = no_refusal (sym e)
      by _ (LinesCame.no_table a f) e = no_refusal (sym e)
      by _ (LinesCame.no_room a f u) e = no_refusal (sym e)
      by _ (LinesCame.read a) e = record { enters = record { room = room; short = short }; ends = subst (AtEnd no_lines (parts 10 s) []) (same_value e) a }

  line_back : (n : ℕ) → T (not (too_long s)) → (o : Outcome Sheet) → LinesCame no_lines (parts 10 s) o → o ≡ refused n → Back n
  line_back n short _ (LinesCame.no_form a f) e = subst Back (same_number e) (TurnedBack.no_form (record { room = room; short = short }) a f)
  line_back n short _ (LinesCame.not_ended a f) e = subst Back (same_number e) (TurnedBack.not_ended (record { room = room; short = short }) a f)
  line_back n short _ (LinesCame.no_table a f) e = subst Back (same_number e) (TurnedBack.no_table (record { room = room; short = short }) a f)
  line_back n short _ (LinesCame.no_room a f u) e = subst Back (same_number e) (TurnedBack.no_room (record { room = room; short = short }) a f u)
  line_back n short _ (LinesCame.read a) e = no_refusal e

  -- reading
  read_back : (n : ℕ) → read s ≡ refused n → Back n
  unfolding read
  read_back n e =
      elim (refused_when _ (too_long s) _ e) [
        | inl (k, t) ↦ subst Back k (TurnedBack.long_sheet room t)
        | inr (short, e₁) ↦
            elim (refused_then (read_lines (parts 10 s) no_lines) _ e₁) [
              | inl e₂ ↦ line_back n short _ (parts_came 10 s no_lines) e₂
              | inr (sh, i, e₃) ↦
                  elim (refused_when _ (no_plan sh) _ e₃) [
                    | inl (k, t) ↦ subst Back k (TurnedBack.no_step_line (is_read sh short i) t)
                    | inr (_, e₄) ↦ no_refusal e₄
                  ]
            ]
      ]

  has_plan : (sh : Sheet) → read s ≡ done sh → HasPlan s output sh
  unfolding read
  has_plan sh e =
      let (short, e₁) = passed (too_long s) _ _ e in
      let (sh₁, i, e₂) = both_done (read_lines (parts 10 s) no_lines) _ e₁ in
      let (plan, e₃) = passed (no_plan sh₁) _ _ e₂ in
      subst (HasPlan s output) (same_value e₃) (record { read = is_read sh₁ short i; plan = plan })

  -- references, uses, ids, fields
  module _ (sh : Sheet) where
    uses_back : {l : Indexed} {n : ℕ} → HasReferences s output sh → First (NamedWrong sh) (lines sh) l → use_number (uses sh l) ≡ n → Back n
    uses_back {l} k f e =
        elim f.wrong [
          | inl u ↦ subst Back (sym (unnamed_number sh l u) ∙ e) (TurnedBack.unnamed k f u)
          | inr u ↦ subst Back (sym (often_number sh l u) ∙ e) (TurnedBack.named_often k f u)
        ]

    check_back : read s ≡ done sh → (n : ℕ) → checked sh ≡ refused n → Back n
    unfolding first_fault
    check_back i n e =
        let k₁ = has_plan sh i in
        let (e₀, some) = given sh (first_fault (all_faults sh)) n (sym (by_passes sh) ∙ e) in
        elim (pass_came (references_pass sh) (after_references sh) e₀) [
          | inl (_, f, k) ↦ subst Back k (TurnedBack.references k₁ f)
          | inr (t₁, e₁) ↦
              let k₂ : HasReferences s output sh = record { plan = k₁; references = t₁ } in
              elim (pass_came (uses_pass sh) (after_uses sh) e₁) [
                | inl (_, f, k) ↦ uses_back k₂ f k
                | inr (t₂, e₂) ↦
                    let k₃ : HasUses s output sh = record { references = k₂; uses = t₂ } in
                    elim (pass_came (ids_pass sh) (after_ids sh) e₂) [
                      | inl (_, f, k) ↦ subst Back k (TurnedBack.ids k₃ f)
                      | inr (t₃, e₃) ↦
                          elim (pass_came (fields_pass sh) [] e₃) [
                            | inl (_, f, k) ↦ subst Back k (TurnedBack.fields (record { uses = k₃; ids = t₃ }) f)
                            | inr (_, e₄) ↦ absurd (some (sym e₄))
                          ]
                    ]
              ]
        ]

    taken : read s ≡ done sh → checked sh ≡ done sh → IsTaken s output sh
    taken i c =
        let (e₀, _) = none_given sh (first_fault (all_faults sh)) (sym (by_passes sh) ∙ c) in
        let (t₁, e₁) = pass_none (references_pass sh) (after_references sh) e₀ in
        let (t₂, e₂) = pass_none (uses_pass sh) (after_uses sh) e₁ in
        let (t₃, e₃) = pass_none (ids_pass sh) (after_ids sh) e₂ in
        let (t₄, e₄) = pass_none (fields_pass sh) [] e₃ in
        record {
          ids = record { uses = record { references = record { plan = has_plan sh i; references = t₁ }; uses = t₂ }; ids = t₃ };
          fields = t₄;
        }

  is_taken : (sh : Sheet) → (read s then checked) ≡ done sh → IsTaken s output sh
  is_taken sh a =
      let (sh₁, i, c) = both_done (read s) checked a in
      let (_, same) = none_given sh₁ (first_fault (all_faults sh₁)) (sym (by_passes sh₁) ∙ c) in
      taken sh (i ∙ ap done same) (subst (λ (x : Sheet). checked x ≡ done sh) same c)

  -- the walks
  visit_back : (sh : Sheet) → (read s then checked) ≡ done sh → (n k : ℕ) (r : Run) → ComesTo sh k r → (o : Outcome Run) → VisitCame k r o → o ≡ refused n → Back n
  visit_back sh a n k r m _ (VisitCame.join t) e = subst Back (same_number e) (TurnedBack.join (is_taken sh a) m (join_told (looked_in k r) t))
  visit_back sh a n k r m _ (VisitCame.sink t) e = subst Back (same_number e) (TurnedBack.sink (is_taken sh a) m (sink_told (looked_in k r) t))
  visit_back sh a n k r m _ VisitCame.passes e = no_refusal e

  walks_back : (sh : Sheet) → (read s then checked) ≡ done sh → (n : ℕ) → simplify_and_fetch_orderings sh ≡ refused n → Back n
  unfolding simplify_and_fetch_orderings down up
  walks_back sh a n e =
      elim (refused_then (down sh then up) (λ r. done (updated sh r)) e) [
        | inl w ↦
            elim (refused_then (down sh) up w) [
              | inl d ↦ let (k, r, m, x) = walk_refused (graph sh.steps).0 (begin sh) n d in visit_back sh a n k r (inl m) _ (visit_came k r) x
              | inr (half, d, u) ↦
                  let (k, r, m, x) = walk_refused half.back half n u in visit_back sh a n k r (inr (half, d, m)) _ (visit_came k r) x
            ]
        | inr (_, _, x) ↦ no_refusal x
      ]

  -- all of it
  pub run_back : (n : ℕ) → run s ≡ refused n → Back n
  unfolding run
  run_back n e =
      elim (refused_then (read s then checked) simplify_and_fetch_orderings e) [
        | inl e₁ ↦ elim (refused_then (read s) checked e₁) [ inl e₂ ↦ read_back n e₂ | inr (sh, i, c) ↦ check_back sh i n c ]
        | inr (sh, a, w) ↦ walks_back sh a n w
      ]

-- And a condition has its number ------------------------------------------------------------------------------------------------------------

module _ (s output : List ℕ) where
  -- the outcome that the call comes to
  abbrev pub outcome : Outcome Run
  outcome = refuse 1 when too_short output else run s

  entered : {n : ℕ} → Enters s output → read_lines (parts 10 s) no_lines ≡ refused n → outcome ≡ refused n
  unfolding run read ◌then◌
  entered k e =
      goes_on 1 (too_short output) _ k.room
      ∙ ap (λ (o : Outcome Sheet). o then checked then simplify_and_fetch_orderings) (goes_on 2 (too_long s) _ k.short)
      ∙ ap (λ (o : Outcome Sheet). (o then λ sh. refuse 6 when no_plan sh else done sh) then checked then simplify_and_fetch_orderings) e

  too_long_back : T (not (too_short output)) → T (too_long s) → outcome ≡ refused 2
  unfolding run read ◌then◌
  too_long_back room t =
      goes_on 1 (too_short output) _ room
      ∙ ap (λ (o : Outcome Sheet). o then checked then simplify_and_fetch_orderings) (refuses 2 (too_long s) _ t)

  reads : {sh : Sheet} → IsRead s output sh → read s ≡ (refuse 6 when no_plan sh else done sh)
  unfolding read ◌then◌
  reads k =
      goes_on 2 (too_long s) _ k.enters.short
      ∙ ap (λ (o : Outcome Sheet). o then λ sh. refuse 6 when no_plan sh else done sh) (lines_come (LinesCame.read k.ends))

  -- once the lines are read
  after_reading : {sh : Sheet} → IsRead s output sh → outcome ≡ ((refuse 6 when no_plan sh else done sh) then checked then simplify_and_fetch_orderings)
  unfolding run
  after_reading k =
      goes_on 1 (too_short output) _ k.enters.room ∙ ap (λ (o : Outcome Sheet). o then checked then simplify_and_fetch_orderings) (reads k)

  -- each check that is passed hands on to the next
  checking : {sh : Sheet} → HasPlan s output sh → outcome ≡ (checked sh then simplify_and_fetch_orderings)
  unfolding ◌then◌
  checking {sh} k =
      after_reading k.read ∙ ap (λ (o : Outcome Sheet). o then checked then simplify_and_fetch_orderings) (goes_on 6 (no_plan sh) _ k.plan)

  references_checked : {sh : Sheet} → HasReferences s output sh → checked sh ≡ refused_by sh (first_fault (after_references sh))
  references_checked {sh} k = by_passes sh ∙ ap (refused_by sh) (pass_goes (references_pass sh) (after_references sh) k.references)

  uses_checked : {sh : Sheet} → HasUses s output sh → checked sh ≡ refused_by sh (first_fault (after_uses sh))
  uses_checked {sh} k = references_checked k.references ∙ ap (refused_by sh) (pass_goes (uses_pass sh) (after_uses sh) k.uses)

  ids_checked : {sh : Sheet} → HasIds s output sh → checked sh ≡ refused_by sh (first_fault (after_ids sh))
  ids_checked {sh} k = uses_checked k.uses ∙ ap (refused_by sh) (pass_goes (ids_pass sh) (after_ids sh) k.ids)

  fields_checked : {sh : Sheet} → IsTaken s output sh → checked sh ≡ done sh
  unfolding first_fault
  fields_checked {sh} k = ids_checked k.ids ∙ ap (refused_by sh) (pass_goes (fields_pass sh) [] k.fields)

  -- the first line that is named wrongly gives its number
  use_checked : {sh : Sheet} {l : Indexed} {n : ℕ} → HasReferences s output sh → First (NamedWrong sh) (lines sh) l → use_number (uses sh l) ≡ n
      → checked sh ≡ refused_by sh n
  use_checked {sh} {l} k f e = references_checked k ∙ ap (refused_by sh) (pass_stops (uses_pass sh) (after_uses sh) l f ∙ e)

  checked_to : {sh : Sheet} {n : ℕ} → HasPlan s output sh → checked sh ≡ refused n → outcome ≡ refused n
  unfolding ◌then◌
  checked_to k e = checking k ∙ ap (λ (o : Outcome Sheet). o then simplify_and_fetch_orderings) e

  walking : {sh : Sheet} → IsTaken s output sh → outcome ≡ simplify_and_fetch_orderings sh
  unfolding ◌then◌
  walking {sh} k = checking k.ids.uses.references.plan ∙ ap (λ (o : Outcome Sheet). o then simplify_and_fetch_orderings) (fields_checked k)

  visiting : {sh : Sheet} {n k : ℕ} {r : Run} → IsTaken s output sh → ComesTo sh n r → simplify_ir_node_orders n r ≡ refused k → outcome ≡ refused k
  unfolding simplify_and_fetch_orderings down up ◌then◌
  visiting {sh} {n} {k} {r} t (inl m) e =
      walking t ∙ ap (λ (o : Outcome Run). o then up then λ q. done (updated sh q)) (walk_stops (graph sh.steps).0 (begin sh) n k r m e)
  visiting {sh} {n} {k} {r} t (inr (half, d, m)) e =
      walking t ∙ ap (λ (o : Outcome Run). o then up then λ q. done (updated sh q)) d
      ∙ ap (λ (o : Outcome Run). o then λ q. done (updated sh q)) (walk_stops half.back half n k r m e)

  pub comes_back : (n : ℕ) → TurnedBack s output n → outcome ≡ refused n
  unfolding ◌then◌
  comes_back _ (TurnedBack.short_output t) = refuses 1 (too_short output) _ t
  comes_back _ (TurnedBack.long_sheet room t) = too_long_back room t
  comes_back _ (TurnedBack.no_form k a f) = entered k (lines_come (LinesCame.no_form a f))
  comes_back _ (TurnedBack.not_ended k a f) = entered k (lines_come (LinesCame.not_ended a f))
  comes_back _ (TurnedBack.no_table k a f) = entered k (lines_come (LinesCame.no_table a f))
  comes_back _ (TurnedBack.no_room k a f u) = entered k (lines_come (LinesCame.no_room a f u))
  comes_back _ (TurnedBack.no_step_line {sh} k t) =
      after_reading k ∙ ap (λ (o : Outcome Sheet). o then checked then simplify_and_fetch_orderings) (refuses 6 (no_plan sh) _ t)
  comes_back _ (TurnedBack.references {sh} {l} k f) =
      checked_to k (by_passes sh ∙ ap (refused_by sh) (pass_stops (references_pass sh) (after_references sh) l f))
  comes_back _ (TurnedBack.unnamed {sh} {l} k f u) = checked_to k.plan (use_checked k f (unnamed_number sh l u))
  comes_back _ (TurnedBack.named_often {sh} {l} k f u) = checked_to k.plan (use_checked k f (often_number sh l u))
  comes_back _ (TurnedBack.ids {sh} {x} k f) =
      checked_to k.references.plan (uses_checked k ∙ ap (refused_by sh) (pass_stops (ids_pass sh) (after_ids sh) x f))
  comes_back _ (TurnedBack.fields {sh} {x} k f) =
      checked_to k.uses.references.plan (ids_checked k ∙ ap (refused_by sh) (pass_stops (fields_pass sh) [] x f))
  comes_back _ (TurnedBack.join {n} {r} k m t) = visiting k m (join_comes n r (join_of (looked_in n r) t))
  comes_back _ (TurnedBack.sink {n} {r} k m t) = visiting k m (sink_comes n r (sink_of (looked_in n r) t))

-- every number of a condition is on the list
on_list : (n : ℕ) → T (leb 1 (times n refusal_numbers)) → Memᴰ n refusal_numbers
on_list n t = stands_in n refusal_numbers (leb→le 1 (times n refusal_numbers) t)

pub listed : (s output : List ℕ) (n : ℕ) → TurnedBack s output n → Memᴰ n refusal_numbers
unfolding sum
listed s output n (TurnedBack.short_output t) = on_list _ tt
listed s output n (TurnedBack.long_sheet r t) = on_list _ tt
listed s output n (TurnedBack.no_form k a f) = on_list _ tt
listed s output n (TurnedBack.not_ended k a f) = on_list _ tt
listed s output n (TurnedBack.no_table k a f) = on_list _ tt
listed s output n (TurnedBack.no_room k a f u) = on_list _ tt
listed s output n (TurnedBack.no_step_line k t) = on_list _ tt
listed s output n (TurnedBack.references k f) = on_list _ tt
listed s output n (TurnedBack.unnamed k f u) = on_list _ tt
listed s output n (TurnedBack.named_often k f u) = on_list _ tt
listed s output n (TurnedBack.ids k f) = on_list _ tt
listed s output n (TurnedBack.fields k f) = on_list _ tt
listed s output n (TurnedBack.join k m t) = on_list _ tt
listed s output n (TurnedBack.sink k m t) = on_list _ tt
