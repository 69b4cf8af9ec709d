-- The second pass: what the loop of build_ir_traversal_graph keeps.
use Rattle.std.specs.Prelude.{if◌then◌else◌}
use mathlib.Core.Path.{◌≡◌, refl, sym, ap, ◌∙◌, subst}
use mathlib.Core.Logic.{inl, inr, ◌≢◌}
use Prim.Native.Nat.{ℕ, zero, suc, ◌+◌, ◌-◌, ◌≤◌, ◌<◌}
use native.Mathlib.Omega.{arith}
use native.Mathlib.Numerals.{add-one}
use native.Mathlib.Decide.{ℕ_discrete}
use mathlib.Core.Bool.{Bool, true, false, ◌&&◌, ◌||◌, not}
use mathlib.Core.List.Memᴰ
use mathlib.Core.List.{List, [], ◌∷◌, ◌++◌, reverse, reverse-append, reverse-reverse, append-nil, Memᴰ}
use lib.Dec.{T, eqb, eqb→eq}
use lib.ListN.{length, get_or, take, drop, set, length-append, length-reverse, length-take, length-drop, length-set, length-map, drop_of_length-le}
use lib.Seq.{take-suc, take_all, take-append-le, drop-append-le, drop-cons, drop_at, get_or-set_same, get_or-set_other}
use Rattle.plan.specs.declared.ir.IR.{IR}
use Rattle.plan.specs.Kinds.{same_ir}
use Rattle.plan.specs.Lists.{sum, times}
use Rattle.plan.specs.Sheet.{Step, step_at}
use Rattle.plan.specs.Faults.{named}
use Rattle.plan.specs.Graph.{Edge, sinks, is_cache, most_places}
use Rattle.plan.specs.Graph as def
use Rattle.storage.specs.Stored.{stored_step, StepFormed}
use Rattle.storage.specs.Held.{steps_in}
use Rattle.storage.specs.declared.stored.Steps.{Steps}
use Rattle.storage.proofs.Laws.{length_steps}
use Rattle.plan.proofs.Booleans.{T_eq, equal}
use Rattle.plan.proofs.Counts.{true_of, sum_ones, times_same, times_other, only}
use Rattle.claims.specs.Plan.{Plan}
use Rattle.claims.proofs.ByLine.{graph, grow, popped, hits, opens, following, edges_into}
use Rattle.claims.proofs.MergedPlan.{hits_own, graph_own}
use Rattle.claims.proofs.Plans.{root_there, input_there, cache_named}
use Rattle.claims.proofs.Reached.{followed_le, followed_none}
use Rattle.claims.proofs.Hits.{hits_named}
use Rattle.claims.proofs.Visits.{length_numbered}
use Rattle.claims.proofs.Places.{Counted, opened, counted_next, none_opened}
use Rattle.ir_graph.specs.Turns.{cached, followed_by, used}
use Rattle.ir_graph.specs.Hits.{HitsCounted}
use Rattle.ir_graph.proofs.Inputs.{few_inputs}
use Rattle.ir_graph.proofs.Bounds.{step_there, cache_there, namings, roots}

-- the places gone through, the last one first, and those that wait
abbrev pub past_of : List ℕ → ℕ → List ℕ
past_of places i = reverse (take i places)

abbrev pub waiting_of : List ℕ → ℕ → List ℕ
waiting_of places i = drop i places

-- what is left of the pass comes to the whole of it
pub record Growing (ps : List Step) (places counts : List ℕ) (es : List Edge) (i : ℕ) : Type 0 where
  pub fuel : ℕ
  pub left : i + fuel ≡ most_places ps
  pub ends : grow fuel ps (popped ps) (past_of places i) (waiting_of places i) es ≡ graph ps
  pub counted : Counted ps (past_of places i) (waiting_of places i)
  pub there : (m : ℕ) → Memᴰ m (waiting_of places i) → m < length ps
  pub caches : (m : ℕ) → T (is_cache ps m) → get_or counts m 0 + times m (past_of places i) ≡ hits (popped ps) m
  pub made : length (sinks ps) + length es ≡ length places
  pub order : i ≤ length places
  pub fits : length places ≤ 288
  pub size : length counts ≡ 32

-- what a turn at the step `top` may rely on
pub record Turn (bytes counts places : List ℕ) (made top : ℕ) : Type 0 where
  pub line : top < 32
  pub formed : StepFormed bytes top
  pub hit : T (cached bytes top) → 1 ≤ get_or counts top 0
  pub few : length (followed_by bytes counts top) ≤ 8
  pub room : length places + length (followed_by bytes counts top) ≤ 280
  pub edges : made + length (followed_by bytes counts top) ≤ 248

module _ (stored : Steps) (plan : Plan (steps_in stored)) where
  abbrev pub ps : List Step
  ps = steps_in stored

  few_waiting : (past waiting : List ℕ) → Counted ps past waiting → length past + length waiting ≤ most_places ps
  few_waiting past waiting c =
      omega (arith, c (λ _. 1), followed_le (λ _. 1) ps (opened ps past), sum_ones past, sum_ones waiting, sum_ones (sinks ps), sum_ones (named ps))

  pub begins : {places counts : List ℕ} → HitsCounted ps counts → places ≡ sinks ps → Growing ps places counts [] 0
  unfolding graph sum
  begins h e =
      record {
        fuel = most_places ps;
        left = omega arith;
        ends = rw e;
        counted = rw e (λ w. omega (arith, followed_none w ps (opened ps []) (none_opened ps plan)));
        there = rw e (root_there ps plan);
        caches = λ m t. omega (arith, h.of_line m, ap (λ (b : Bool). if b then def.hits (def.key ps) (def.popped ps) m else 0) (true_of (is_cache ps m) t), hits_own ps plan m);
        made = rw e (omega arith);
        order = omega arith;
        fits = rw e (omega (arith, roots stored plan));
        size = h.size;
      }

  -- One turn: the step at the place i ----------------------------------------------------------------------------------------------

  module _ (places counts : List ℕ) (es : List Edge) (i : ℕ) (g : Growing ps places counts es i) (h : i < length places) where
    abbrev pub top : ℕ
    top = get_or places i 0

    abbrev pub past : List ℕ
    past = past_of places i

    abbrev pub rest : List ℕ
    rest = waiting_of places (suc i)

    waits : waiting_of places i ≡ top ∷ rest
    waits = drop-cons places i 0 h

    pub counted_top : Counted ps past (top ∷ rest)
    counted_top = rw waits at g.counted

    pub top_there : top < stored.count
    top_there = omega (arith, length_steps stored.bytes stored.count, g.there top (rw waits (Memᴰ.head refl)))

    abbrev pub new : List ℕ
    new = followed_by stored.bytes counts top

    -- of a Cache: its places gone through, those that wait and its hits
    cache_hits : T (cached stored.bytes top) → (1 ≤ get_or counts top 0) × (get_or counts top 0 + times top past ≡ hits (popped ps) top)
    cache_hits t =
        let c = subst T (sym (cache_there stored.bytes stored.count top top_there)) t in
        let e = g.caches top c in (
          omega (
            arith,
            e,
            counted_top (only top),
            times_same top rest,
            followed_le (only top) ps (opened ps past),
            cache_named ps plan top c,
            hits_named ps plan top c,
          ),
          e,
        )

    pub following_new : following ps (popped ps) past top ≡ new
    unfolding following opens
    following_new =
        ap (λ (s : Step). if not (same_ir s.kind IR.Cache) || eqb (times top past + 1) (hits (popped ps) top) then s.inputs else []) (step_there stored.bytes stored.count top top_there)
        ∙ by (cached stored.bytes top) cache_hits
      where
        inputs : List ℕ
        inputs = (stored_step stored.bytes top).inputs

        now : (a : Bool) → (if a then inputs else []) ≡ (if not a then [] else inputs)
        now true = refl
        now false = refl

        by : (b : Bool) → (T b → (1 ≤ get_or counts top 0) × (get_or counts top 0 + times top past ≡ hits (popped ps) top))
            → (if not b || eqb (times top past + 1) (hits (popped ps) top) then inputs else []) ≡ (if b && not (eqb (get_or counts top 0 - 1) 0) then [] else inputs)
        by false f = refl
        by true f =
            let (one, e) = f tt in
            ap (λ (a : Bool). if a then inputs else [])
            (T_eq (eqb (times top past + 1) (hits (popped ps) top)) (eqb (get_or counts top 0 - 1) 0)
            (λ t. let x = eqb→eq (times top past + 1) (hits (popped ps) top) t in equal (get_or counts top 0 - 1) 0 (omega arith))
            (λ t. let x = eqb→eq (get_or counts top 0 - 1) 0 t in equal (times top past + 1) (hits (popped ps) top) (omega arith)))
            ∙ now (eqb (get_or counts top 0 - 1) 0)

    counted_new : Counted ps (top ∷ past) (rest ++ new)
    counted_new =
        subst (λ (l : List ℕ). Counted ps (top ∷ past) (rest ++ l)) following_new
        (counted_next ps plan past rest top counted_top (omega (arith, length_steps stored.bytes stored.count, top_there)))

    all_fit : length places + length new ≤ most_places ps
    all_fit =
        let f = few_waiting (top ∷ past) (rest ++ new) counted_new in
        let l : length past ≡ i = simp (length-reverse, length-take) (omega arith) in
        let r : length rest ≡ length places - suc i = simp length-drop (omega arith) in
        omega (arith, f, length-append rest new, l, r)

    few_new : length new ≤ 8
    few_new = by (cached stored.bytes top && not (eqb (get_or counts top 0 - 1) 0))
      where
        by : (b : Bool) → length (if b then [] else (stored_step stored.bytes top).inputs) ≤ 8
        by true = omega arith
        by false = few_inputs stored.bytes top (stored.held.formed top top_there)

    pub turn : (edges : ℕ) → length es ≡ edges → Turn stored.bytes counts places edges top
    turn edges e =
        record {
          line = omega (arith, top_there, stored.held.few);
          formed = stored.held.formed top top_there;
          hit = λ t. (cache_hits t).0;
          few = few_new;
          room = omega (arith, all_fit, namings stored plan, roots stored plan);
          edges = omega (arith, all_fit, g.made, namings stored plan);
        }

    pub turns_left : i < most_places ps
    turns_left = omega (arith, all_fit)

    counts_next : (m : ℕ) → T (is_cache ps m) → get_or (used stored.bytes counts top) m 0 + times m (top ∷ past) ≡ hits (popped ps) m
    counts_next m t = by (ℕ_discrete m top)
      where
        other : (b : Bool) → m ≢ top → get_or (if b then set counts top (get_or counts top 0 - 1) else counts) m 0 ≡ get_or counts m 0
        other true h = get_or-set_other counts top m (get_or counts top 0 - 1) 0 h
        other false h = refl

        same : (b : Bool) → T b → get_or (if b then set counts top (get_or counts top 0 - 1) else counts) top 0 ≡ get_or counts top 0 - 1
        same true h = get_or-set_same counts top (get_or counts top 0 - 1) 0 (omega (arith, g.size, top_there))
        same false h = absurd h

        by : Dec (m ≡ top) → get_or (used stored.bytes counts top) m 0 + times m (top ∷ past) ≡ hits (popped ps) m
        by (yes e) =
            let b = subst T (cache_there stored.bytes stored.count top top_there) (subst (λ x. T (is_cache ps x)) e t) in
            let (one, f) = cache_hits b in
            subst (λ x. get_or (used stored.bytes counts top) x 0 + times x (top ∷ past) ≡ hits (popped ps) x) (sym e)
            (omega (arith, same (cached stored.bytes top) b, times_same top past))
        by (no h) = omega (arith, other (cached stored.bytes top) h, times_other m top past h, g.caches m t)

    module _ (places' counts' : List ℕ) (q : places' ≡ places ++ new) where
      pub gone : past_of places' (i + 1) ≡ top ∷ past
      gone =
          rw (q, add-one, take-append-le (suc i) places new h, take-suc places i 0 h, reverse-append (take i places) (top ∷ [])) refl

      wait : waiting_of places' (i + 1) ≡ rest ++ new
      wait = rw (q, add-one, drop-append-le (suc i) places new h) refl

      pub just_pushed : drop (length places) places' ≡ new
      just_pushed = rw q (drop_at places new (length places) refl)

      pub longer : length places' ≡ length places + length new
      longer = rw q (length-append places new)

      pub growing_next : counts' ≡ used stored.bytes counts top → Growing ps places' counts' (es ++ edges_into top new) (i + 1)
      unfolding grow following edges_into
      growing_next u =
          let (f, e) = some_fuel g.fuel g.left in
          record {
            fuel = f;
            left = omega (arith, g.left, e);
            ends =
                rw (gone, wait)
                (subst (λ (l : List ℕ). grow f ps (popped ps) (top ∷ past) (rest ++ l) (es ++ edges_into top l) ≡ graph ps) following_new
                (subst (λ (x : ℕ). grow x ps (popped ps) past (top ∷ rest) es ≡ graph ps) e (rw waits at g.ends)));
            counted = rw (gone, wait) counted_new;
            there =
                λ m j.
                elim (Memᴰ.append_cases rest (subst (Memᴰ m) wait j)) [
                  | inl k ↦ g.there m (rw waits (Memᴰ.tail k))
                  | inr k ↦ in_range m (opens ps (popped ps) past top) (subst (Memᴰ m) (sym following_new) k)
                ];
            caches = λ m t. rw (u, gone) (counts_next m t);
            made =
                simp (length-append, length-map)
                (omega (arith, g.made, longer, length_numbered 0 new));
            order = omega (arith, longer);
            fits = omega (arith, longer, all_fit, namings stored plan, roots stored plan);
            size = rw u (size_after (cached stored.bytes top));
          }
        where
          some_fuel : (x : ℕ) → i + x ≡ most_places ps → (f : ℕ) × (x ≡ suc f)
          some_fuel zero l = absurd (omega (arith, turns_left))
          some_fuel (suc f) l = (f, refl)

          in_range : (m : ℕ) (b : Bool) → Memᴰ m (if b then (step_at ps top).inputs else []) → m < length ps
          in_range m true j = input_there ps plan top m j
          in_range m false j = absurd (Memᴰ.not-nil j)

          size_after : (b : Bool) → length (if b then set counts top (get_or counts top 0 - 1) else counts) ≡ 32
          size_after true = length-set counts top (get_or counts top 0 - 1) ∙ g.size
          size_after false = g.size

  -- The end of the list ------------------------------------------------------------------------------------------------------------

  pub grown : {places counts : List ℕ} {es : List Edge} {i : ℕ} → Growing ps places counts es i → length places ≤ i
      → (places ≡ (def.graph ps).0) × (es ≡ (def.graph ps).1)
  unfolding grow
  grown {places} {es = es} {i} g h = subst (λ (x : List ℕ × List Edge). (places ≡ x.0) × (es ≡ x.1)) (sym (graph_own ps plan)) (by g.fuel (rw (all_past, drop_of_length-le places {i = i} h) at g.ends))
    where
      all_past : past_of places i ≡ reverse places
      all_past = ap reverse (take_all i places h)

      both : (l : List ℕ) → (l, es) ≡ graph ps → l ≡ places → (places ≡ (graph ps).0) × (es ≡ (graph ps).1)
      both l e v = (sym v ∙ ap (λ x. x.0) e, ap (λ x. x.1) e)

      by : (f : ℕ) → grow f ps (popped ps) (reverse places) [] es ≡ graph ps → (places ≡ (graph ps).0) × (es ≡ (graph ps).1)
      by zero e = both (reverse (reverse places) ++ []) e (append-nil (reverse (reverse places)) ∙ reverse-reverse places)
      by (suc f) e = both (reverse (reverse places)) e (reverse-reverse places)
