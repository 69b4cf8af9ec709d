-- The first pass: what the loop of count_hits keeps.
use Rattle.std.specs.Prelude.{if◌then◌else◌}
use mathlib.Core.Path.{◌≡◌, refl, sym, ap, ◌∙◌, subst}
use mathlib.Core.Logic.{inl, inr, ◌≢◌}
use Prim.Native.Nat.{ℕ, zero, suc, ◌+◌, ◌≤◌, ◌<◌}
use native.Mathlib.Omega.{arith}
use native.Mathlib.Decide.{ℕ_discrete}
use mathlib.Core.Bool.{Bool, true, false, ◌&&◌, false≢true}
use mathlib.Core.List.Memᴰ
use mathlib.Core.List.{List, [], ◌∷◌, ◌++◌, reverse, reverse-append, Memᴰ}
use lib.Dec.{T, eqb, ltb, ltb→lt, lt→ltb}
use lib.ListN.{length, get_or, set, replicate, length-append, length-reverse, length-set}
use lib.Seq.{get_or-set_same, get_or-set_other}
use Rattle.plan.specs.declared.ir.IR.{IR}
use Rattle.plan.specs.Kinds.{same_ir}
use Rattle.plan.specs.Lists.{any?, sum, among, times}
use Rattle.plan.specs.Sheet.{Step, step_at}
use Rattle.plan.specs.Faults.{named}
use Rattle.plan.specs.Graph.{sinks, is_cache, most_places, key, hits}
use Rattle.plan.specs.Graph as def
use Rattle.storage.specs.Stored.{stored_step, stored_steps, StepFormed}
use Rattle.storage.specs.Held.{steps_in}
use Rattle.storage.specs.declared.stored.Steps.{Steps}
use Rattle.claims.specs.Plan.{Plan}
use Rattle.plan.proofs.ListLaws.{sum_append}
use Rattle.storage.proofs.Laws.{length_steps}
use Rattle.plan.proofs.Booleans.{T_eq}
use Rattle.plan.proofs.Counts.{T_of, not_both, sum_reverse, sum_le, sum_ones, times_same, times_other, mem_reverse, mem_at, only, among_times, times_among}
use Rattle.claims.proofs.ByLine.{pushes, pop, popped}
use Rattle.claims.proofs.MergedPlan.{popped_own, hits_own}
use Rattle.claims.proofs.Plans.{root_there, input_there, cache_named}
use Rattle.claims.proofs.Reached.{followed_le, followed_none}
use Rattle.claims.proofs.Hits.{Counted, counted_next}
use Rattle.ir_graph.specs.Turns.{cached, pushed_by, hit}
use Rattle.ir_graph.specs.Hits.{HitsCounted, MetNoted}
use Rattle.ir_graph.proofs.Bounds.{step_there, cache_there, namings, roots}

-- `met` was popped, `stack` waits, and what is left of the pass comes to the whole of it
pub record Popping (ps : List Step) (stack counts met : List ℕ) : Type 0 where
  pub fuel : ℕ
  pub left : length met + fuel ≡ most_places ps
  pub ends : pop fuel ps met (reverse stack) ≡ popped ps
  pub counted : Counted ps met (reverse stack)
  pub met_there : (m : ℕ) → Memᴰ m met → m < length ps
  pub there : (m : ℕ) → Memᴰ m stack → m < length ps
  pub caches : (m : ℕ) → T (is_cache ps m) → get_or counts m 0 ≡ times m met
  pub others : (m : ℕ) → is_cache ps m ≡ false → get_or counts m 0 ≡ 0
  pub size : length counts ≡ 32

-- what a turn at the step `top` may rely on, with `rest` waiting below it
pub record Turn (bytes : List ℕ) (n : ℕ) (counts rest met : List ℕ) (top : ℕ) : Type 0 where
  pub line : top < 32
  pub formed : StepFormed bytes top
  pub hit : T (cached bytes top) → get_or counts top 0 < 255
  pub room : length rest + length (pushed_by bytes counts top) ≤ 288
  pub left : length met < most_places (stored_steps bytes n)
  pub few : length met < 280

pub zeros : (n i : ℕ) → ◌≡◌ {A = ℕ} (get_or (replicate n 0) i 0) 0
zeros zero i = refl
zeros (suc n) zero = refl
zeros (suc n) (suc i) = zeros n i

times_few : (n : ℕ) (l : List ℕ) → times n l ≤ length l
times_few n l = omega (arith, sum_le (only n) (λ _. 1) l (λ m _. by (eqb n m)), sum_ones l)
  where
    by : (b : Bool) → (if b then 1 else 0) ≤ 1
    by true = omega arith
    by false = omega arith

-- what a pop finds empty
pub none_left : (l : List ℕ) → (0 < length l → false ≡ true) → l ≡ []
none_left [] h = refl
none_left (x ∷ l) h = absurd (false≢true (h (omega arith)))

module _ (stored : Steps) (plan : Plan (steps_in stored)) where
  abbrev ps : List Step
  ps = steps_in stored

  -- what was popped and what waits has room
  few : (met stack : List ℕ) → Counted ps met stack → length met + length stack ≤ most_places ps
  few met stack c =
      omega (arith, c (λ _. 1), followed_le (λ _. 1) ps (λ m. among m met), sum_ones met, sum_ones stack, sum_ones (sinks ps), sum_ones (named ps))

  pub begins : {stack counts : List ℕ} → length counts ≡ 32 → ((i : ℕ) → get_or counts i 0 ≡ 0) → stack ≡ sinks ps → Popping ps stack counts []
  unfolding popped sum any?
  begins s z e =
      record {
        fuel = most_places ps;
        left = omega arith;
        ends = rw e;
        counted = rw e (λ w. omega (arith, none w, sum_reverse w (sinks ps), followed_none w ps (λ n. among n []) (λ n. refl)));
        met_there = λ m i. absurd (Memᴰ.not-nil i);
        there = rw e (root_there ps plan);
        caches = λ m t. z m;
        others = λ m e. z m;
        size = s;
      }
    where
      none : (w : ℕ → ℕ) → sum w [] ≡ 0
      none w = refl

  module _ {stack counts met : List ℕ} (p : Popping ps stack counts met) (e : stack ≡ []) where
    all_met : met ≡ popped ps
    unfolding pop
    all_met = by p.fuel (rw e at p.ends)
      where
        by : (f : ℕ) → pop f ps met (reverse []) ≡ popped ps → met ≡ popped ps
        by zero q = q
        by (suc f) q = q

    pub hits_ended : HitsCounted ps counts
    hits_ended = record { size = p.size; of_line = λ m. by m (is_cache ps m) refl }
      where
        by : (m : ℕ) (b : Bool) → is_cache ps m ≡ b → get_or counts m 0 ≡ (if b then hits (key ps) (def.popped ps) m else 0)
        by m true e = p.caches m (T_of (is_cache ps m) e) ∙ ap (times m) all_met ∙ sym (hits_own ps plan m)
        by m false e = p.others m e

    pub noted_ended : MetNoted ps met
    noted_ended =
        record {
          order = all_met ∙ sym (popped_own ps plan);
          few = omega (arith, p.left, namings stored plan, roots stored plan);
          there = λ k h. p.met_there _ (mem_at met k 0 h);
        }

  -- One turn: the step on top of the stack ---------------------------------------------------------------------------------------

  module _ {stack counts met : List ℕ} (rest : List ℕ) (top : ℕ) (p : Popping ps stack counts met) (e : stack ≡ rest ++ (top ∷ [])) where
    waits : reverse stack ≡ top ∷ reverse rest
    waits = rw (e, reverse-append rest (top ∷ [])) refl

    counted_top : Counted ps met (top ∷ reverse rest)
    counted_top = rw waits at p.counted

    top_there : top < stored.count
    top_there = omega (arith, length_steps stored.bytes stored.count, p.there top (mem_reverse top stack (rw waits (Memᴰ.head refl))))

    abbrev new : List ℕ
    new = pushed_by stored.bytes counts top

    pushes_new : pushes ps met top ≡ new
    unfolding pushes
    pushes_new =
        ap (λ (s : Step). if same_ir s.kind IR.Cache && among top met then [] else s.inputs) (step_there stored.bytes stored.count top top_there)
        ∙ by (cached stored.bytes top) (λ t. p.caches top (subst T (sym (cache_there stored.bytes stored.count top top_there)) t))
      where
        by : (b : Bool) → (T b → get_or counts top 0 ≡ times top met)
            → (if b && among top met then [] else (stored_step stored.bytes top).inputs) ≡ (if b && ltb 0 (get_or counts top 0) then [] else (stored_step stored.bytes top).inputs)
        by false h = refl
        by true h =
            ap (λ (b : Bool). if b then [] else (stored_step stored.bytes top).inputs)
            (T_eq (among top met) (ltb 0 (get_or counts top 0))
            (λ t. lt→ltb 0 (get_or counts top 0) (omega (arith, h tt, among_times top met t)))
            (λ t. times_among top met (omega (arith, h tt, ltb→lt 0 (get_or counts top 0) t))))

    counted_new : Counted ps (met ++ (top ∷ [])) (reverse new ++ reverse rest)
    counted_new = rw (← pushes_new) (counted_next ps plan met (reverse rest) top (omega (arith, length_steps stored.bytes stored.count, top_there)) counted_top)

    all_fit : length met + 1 + length new + length rest ≤ most_places ps
    all_fit =
        let f = few (met ++ (top ∷ [])) (reverse new ++ reverse rest) counted_new in
        omega (arith, f, length-append met (top ∷ []), length-append (reverse new) (reverse rest), length-reverse new, length-reverse rest)

    room_new : length rest + length new ≤ 288
    room_new = omega (arith, all_fit, namings stored plan, roots stored plan)

    hit_fits : T (cached stored.bytes top) → get_or counts top 0 < 255
    hit_fits t =
        let c = subst T (sym (cache_there stored.bytes stored.count top top_there)) t in
        omega (
          arith,
          p.caches top c,
          counted_top (only top),
          times_same top (reverse rest),
          followed_le (only top) ps (λ m. among m met),
          cache_named ps plan top c,
          times_few top (named ps),
          namings stored plan,
        )

    pub turn : Turn stored.bytes stored.count counts rest met top
    turn =
        record {
          line = omega (arith, top_there, stored.held.few);
          formed = stored.held.formed top top_there;
          hit = hit_fits;
          room = room_new;
          left = omega (arith, all_fit);
          few = omega (arith, all_fit, namings stored plan, roots stored plan);
        }

    counts_next : (m : ℕ) → T (is_cache ps m) → get_or (hit stored.bytes counts top) m 0 ≡ times m (met ++ (top ∷ []))
    unfolding sum
    counts_next m t = by (ℕ_discrete m top)
      where
        more : times m (met ++ (top ∷ [])) ≡ times m met + times m (top ∷ [])
        more = sum_append (only m) met (top ∷ [])

        other : (b : Bool) → m ≢ top → get_or (if b then set counts top (get_or counts top 0 + 1) else counts) m 0 ≡ get_or counts m 0
        other true h = get_or-set_other counts top m (get_or counts top 0 + 1) 0 h
        other false h = refl

        same : (b : Bool) → T b → m ≡ top → get_or (if b then set counts top (get_or counts top 0 + 1) else counts) m 0 ≡ get_or counts m 0 + 1
        same true h i =
            rw i (get_or-set_same counts top (get_or counts top 0 + 1) 0 (omega (arith, p.size, top_there)))
        same false h i = absurd h

        by : Dec (m ≡ top) → get_or (hit stored.bytes counts top) m 0 ≡ times m (met ++ (top ∷ []))
        by (yes i) =
            let b = subst T (cache_there stored.bytes stored.count top top_there) (subst (λ x. T (is_cache ps x)) i t) in
            let one : times m (top ∷ []) ≡ 1 = subst (λ x. times m (x ∷ []) ≡ 1) i (times_same m []) in
            same (cached stored.bytes top) b i ∙ omega (arith, p.caches m t, more, one)
        by (no h) =
            let none : times m (top ∷ []) ≡ 0 = times_other m top [] h in
            other (cached stored.bytes top) h ∙ omega (arith, p.caches m t, more, none)

    others_next : (m : ℕ) → is_cache ps m ≡ false → get_or (hit stored.bytes counts top) m 0 ≡ 0
    others_next m e = by (cached stored.bytes top) refl
      where
        by : (b : Bool) → cached stored.bytes top ≡ b → get_or (if b then set counts top (get_or counts top 0 + 1) else counts) m 0 ≡ 0
        by true c =
            let apart : m ≢ top = λ i. not_both (is_cache ps m) (T_of (is_cache ps m) (ap (is_cache ps) i ∙ cache_there stored.bytes stored.count top top_there ∙ c)) e in
            get_or-set_other counts top m (get_or counts top 0 + 1) 0 apart ∙ p.others m e
        by false c = p.others m e

    pub popping_next : {stack' counts' : List ℕ} → stack' ≡ rest ++ new → counts' ≡ hit stored.bytes counts top → Popping ps stack' counts' (met ++ (top ∷ []))
    unfolding pop pushes
    popping_next q h =
        let (f, g) = some_fuel p.fuel p.left in
        record {
          fuel = f;
          left = omega (arith, p.left, g, length-append met (top ∷ []));
          ends =
              rw (q, reverse-append rest new)
              (subst (λ (l : List ℕ). pop f ps (met ++ (top ∷ [])) (reverse l ++ reverse rest) ≡ popped ps) pushes_new
              (subst (λ (x : ℕ). pop x ps met (top ∷ reverse rest) ≡ popped ps) g (rw waits at p.ends)));
          counted = rw (q, reverse-append rest new) counted_new;
          met_there =
              λ m i.
              elim (Memᴰ.append_cases met i) [
                | inl j ↦ p.met_there m j
                | inr j ↦ elim (Memᴰ.cases_cons j) [ inl q ↦ omega (arith, q, length_steps stored.bytes stored.count, top_there) | inr q ↦ absurd (Memᴰ.not-nil q) ]
              ];
          there =
              λ m i.
              elim (Memᴰ.append_cases rest (subst (Memᴰ m) q i)) [
                | inl j ↦ p.there m (subst (Memᴰ m) (sym e) (Memᴰ.append_left (top ∷ []) j))
                | inr j ↦ pushed_there m j
              ];
          caches = λ m t. rw h (counts_next m t);
          others = λ m i. rw h (others_next m i);
          size = rw h (size_after (cached stored.bytes top));
        }
      where
        some_fuel : (x : ℕ) → length met + x ≡ most_places ps → (f : ℕ) × (x ≡ suc f)
        some_fuel zero l = absurd (omega (arith, turn.left))
        some_fuel (suc f) l = (f, refl)

        in_range : (m : ℕ) (b : Bool) → Memᴰ m (if b then [] else (step_at ps top).inputs) → m < length ps
        in_range m true j = absurd (Memᴰ.not-nil j)
        in_range m false j = input_there ps plan top m j

        pushed_there : (m : ℕ) → Memᴰ m new → m < length ps
        pushed_there m j = in_range m (is_cache ps top && among top met) (subst (Memᴰ m) (sym pushes_new) j)

        size_after : (b : Bool) → length (if b then set counts top (get_or counts top 0 + 1) else counts) ≡ 32
        size_after true = length-set counts top (get_or counts top 0 + 1) ∙ p.size
        size_after false = p.size
