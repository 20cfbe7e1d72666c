-- A hook whose lines do its walk keeps its promise: it is entered, its lines are done, and it returns.
use Rattle.std.proofs.Common.{◌≡◌, ℕ, zero, suc, ◌+◌, ◌*◌, ◌%◌, ◌^◌, ◌<◌, ◌≤◌, Bool, true, false, List, [], ◌∷◌, Option, Some, None}
use Rattle.std.proofs.Common.{refl, sym, ap, subst, ◌∙◌, arith, le_refl}
use Rattle.std.proofs.Math.Nat.{add-mul}
use Rattle.std.proofs.lemmas.Bool.{false≢true}
use Rattle.arc_base.specs.Event.{Event}
use Rattle.arc_base.specs.Behaviour.{no_objects}
use Rattle.arc_base.specs.Simulation.{Steps}
use Rattle.arc_base.specs.Stepping.{Goes, next_map}
use Rattle.arc_base.proofs.ForCallers.{steps_one, steps_on}
use Rattle.nim_types.specs.declared.types.TypeDef.{TypeDef}
use Rattle.nim_types.specs.declared.types.TheConstants.{LIST_BYTES}
use Rattle.nim_meaning.specs.Values.{Location}
use Rattle.nim_meaning.specs.State.{World}
use Rattle.nim_meaning.specs.Deeds.{Done, Answers, Finishes, Fails, perform}
use Rattle.flat_code.specs.Scene.{Known, known_in}
use Rattle.rv32_isa.specs.Machine.{Lives}
use Rattle.word_code.specs.declared.word.WordInstr.{WordInstr}
use Rattle.word_code.specs.declared.word.WordInstr.TheVariants as W
use Rattle.word_code.specs.declared.word.WordProc.{WordProc}
use Rattle.word_code.specs.Memory.{Memory, with_places, without_places}
use Rattle.word_code.specs.Words.{no_words, params_of, WordFrame, WordState, Fresh, step, step_of, step_lines, settled, entered, from_proc}
use Rattle.word_code.specs.Words.{scene_of, using, Returns}
use Rattle.word_code.specs.Routines.{goes_on}
use Rattle.word_code.proofs.ForCallers.{Within, at}
use Rattle.word_code.specs.Joined.{moved}
use Rattle.hook_lifting.specs.declared.lifted.Hook.{Hook}
use Rattle.hook_lifting.specs.declared.lifted.LiftedLine.{LiftedLine}
use Rattle.hook_lifting.specs.Lifting.{hook_deed, both_places, beginning, comes_to}
use Rattle.hook_lifting.specs.Weights.{price, least_pace, Weighs}
use Rattle.hook_lifting.specs.Doing.{Alike}
use Rattle.hook_lifting.proofs.ForCallers.{LeastDone}
use Rattle.hook_code.specs.HookCode.{lines_code, hook_number, proc_with}
use Rattle.hook_code.specs.Surroundings.{Hand, Surroundings}
use Rattle.hook_code.specs.Promises.{from_own, IsOver, IsBack, IsCalled, Comes, AnyWord, Routines}
use Rattle.hook_code.proofs.Env.{Env, AllFit}
use Rattle.hook_code.proofs.Known.{Knows, AtPlace, none_some, same_some}
use Rattle.hook_code.proofs.Lines.{Before, stops_behind, IsReturned}
use Rattle.hook_code.proofs.CallRuns.{MayDo}
use Rattle.hook_code.proofs.Follow.{Distinct, Ends_in, follows}

-- what is known before the first line
abbrev pub first_at : Hook → (ty : ℕ) → ℕ → Option (Bool × ℕ)
first_at hook ty zero = Some (true, ty)
first_at hook ty (suc zero) = Some (from_own hook, ty)
first_at hook ty j = None

abbrev pub first_env : Hook → (ty : ℕ) → Env
first_env hook ty = record { at = first_at hook ty; has = λ t. None; counts = λ t. false; small = false; begun = None }

-- in more lines
module _ (table : List TypeDef) (z : Surroundings table) (live : Lives) (procs : List WordProc) (fresh : Fresh) where
  pub back_in : (few many : ℕ) → few ≤ many → {low top : ℕ} {h : Hand} {d : z.Blocks} {Gives : z.Blocks → ℕ → Type 0} {s : ℕ × WordState} {to : ℕ}
      {rest : List WordInstr} {w : World} → IsBack table z live procs fresh low top h d Gives s to rest w few
      → IsBack table z live procs fresh low top h d Gives s to rest w many
  back_in few many le x = record {
    memory = x.memory;
    word = x.word;
    after = x.after;
    ahead = x.ahead;
    here = x.here;
    gives = x.gives;
    lines = x.lines;
    few = let l = x.few in omega (arith, le, l);
    behind = x.behind;
    runs = x.runs;
  }

  pub over_in : (few many : ℕ) → few ≤ many → {s : ℕ × WordState} {es : List Event} {status : ℕ} → IsOver table z live procs fresh s es status few
      → IsOver table z live procs fresh s es status many
  over_in few many le x = record { lines = x.lines; few = let l = x.few in omega (arith, le, l); stops = x.stops }

module _ (table : List TypeDef) (z : Surroundings table) (live : Lives) (procs : List WordProc) (fresh : Fresh) (first ty chain level pace : ℕ)
    (steep : least_pace ≤ pace) (routines : Routines table z live procs fresh) where
  abbrev known : Known
  known = known_in table

  abbrev At_line : Type 0
  At_line = ℕ × WordState

  abbrev To : ℕ → At_line → At_line → Type 0
  To n s t = Steps (step_of live procs fresh) n s [] n t

  -- one line
  one_step : (n : ℕ) (s t : WordState) → step live procs (fresh n) s ≡ Goes [] 1 t → To 1 (n, s) (suc n, t)
  one_step n s t e = steps_one (step_of live procs fresh) (n, s) (suc n, t) [] 1 1 (ap (next_map (λ u. (suc n, u))) e) (omega arith)

  module _ (hook : Hook) (number : ℕ) (code : List WordInstr) (shift : ℕ) (others : List WordProc)
      (there : from_proc number procs ≡ moved shift (proc_with number code) ∷ others) where
    abbrev proc : WordProc
    proc = moved shift (proc_with number code)

    -- ---- it is called

    module _ (low top : ℕ) (h : Hand) (d : z.Blocks) (w : World) (s : At_line) (to : ℕ) (rest : List WordInstr) (words : List ℕ)
        (called : IsCalled table z live procs fresh number words low top h d w s to rest) (fits : top + LIST_BYTES * suc chain ≤ z.limit) where
      abbrev caller : WordFrame
      caller = record s.1.frame { left = rest; given = no_words; awaits = to }

      abbrev pub inner : Within
      inner = record {
        units = s.1.units;
        input = s.1.input;
        proc = proc;
        base = top;
        awaits = 0;
        callers = caller ∷ s.1.callers;
      }

      abbrev inside : Memory
      inside = with_places s.1.memory LIST_BYTES (fresh s.0)

      abbrev pub first_state : WordState
      first_state = at inner inside code (params_of proc s.1.frame.given) no_words

      pub top_small : top + LIST_BYTES ≤ z.limit
      top_small = omega (arith, fits)

      pub own_small : top < 2 ^ 32
      own_small = let e = z.limit_small in omega (arith, fits, e)

      pub left : top + LIST_BYTES + LIST_BYTES * chain ≤ z.limit
      left = omega (arith, fits)

      base_top : (s.1.frame.base + s.1.frame.proc.room) % 2 ^ 32 ≡ top
      base_top =
          let e = called.top_is in let l = z.limit_small in
          let f : (s.1.frame.base + s.1.frame.proc.room) % 2 ^ 32 ≡ s.1.frame.base + s.1.frame.proc.room = omega (arith, e, fits, l) in f ∙ e

      pub enters_it : To 1 s (suc s.0, first_state)
      enters_it =
          one_step s.0 s.1 first_state
          (ap (step_lines live procs (fresh s.0) s.1) called.calling.next
          ∙ (ap (entered (fresh s.0) s.1 rest (scene_of s.1) to) there
          ∙ ap (λ b. Goes [] 1 (at (record inner { base = b }) inside code (params_of proc s.1.frame.given) no_words)) base_top))

      -- ---- and returns

      module _ (joined : ℕ → Env) (w1 : World) (most : ℕ)
          (back : IsReturned table z live procs fresh h top inner d joined w1 (suc s.0, first_state) most) where
        abbrev behind : Memory
        behind = without_places back.memory LIST_BYTES

        abbrev gone_on : WordState
        gone_on = goes_on s.1 to back.word rest behind s.1.input

        abbrev last_state : WordState
        last_state = at (record inner { awaits = back.awaits }) back.memory (W.Return 0 ∷ back.rest) back.vars back.given

        returns_it : To 1 (back.done, last_state) (suc back.done, gone_on)
        returns_it =
            one_step back.done last_state gone_on
            (ap (λ o. settled live procs (fresh back.done) last_state back.rest (using o (λ a. Returns a))) back.zero)

        pub is_back : (limit : ℕ) → 1 + most ≤ limit → IsBack table z live procs fresh low top h d (AnyWord table z live procs fresh tt) s to rest w1 limit
        is_back limit may = record {
          memory = behind;
          word = back.word;
          after = back.blocks;
          ahead = back.ahead;
          here = z.leaves low top h d back.blocks w w1 s.1.memory back.memory called.here back.ahead back.here;
          gives = tt;
          lines = 1 + (back.lines + 1);
          few = let l = back.few in omega (arith, may, l);
          behind = suc back.done;
          runs = steps_on (step_of live procs fresh) 1 (back.lines + 1) 1 (back.lines + 1) s (suc s.0, first_state) (suc back.done, gone_on) [] [] enters_it
              (steps_on (step_of live procs fresh) back.lines 1 back.lines 1 (suc s.0, first_state) (back.done, last_state) (suc back.done, gone_on) [] []
              back.runs returns_it);
        }

      -- lines that come to the same as a deed
      module _ (joined : ℕ → Env) where
        abbrev pub To_come : Option (Done (Unit {0})) → (most : ℕ) → Type 0
        To_come o most = Ends_in table z live procs fresh h top inner d joined first ty level refl own_small refl chain pace steep left routines o
            (suc s.0, first_state) most

        -- with the call
        pub together : (rate more : ℕ) (done : Done (Unit {0})) (o : Option (Done (Unit {0}))) (price : ℕ) → Alike done o → Weighs rate more done price
            → (may : (n : ℕ) → ℕ) → ((n : ℕ) → 1 + (rate * n + more) ≤ may n) → To_come o price
            → Comes table z live procs fresh low top h d (AnyWord table z live procs fresh) s to rest may done
        together rate more (Answers es n u w1) (Some (Answers fs m v other)) price same weighs may enough x = (
          sym same.0 ∙ x.0,
          subst (λ i. IsBack table z live procs fresh low top h d (AnyWord table z live procs fresh tt) s to rest i (may n)) same.1
              (is_back joined other price x.1 (may n) (let e = enough n in omega (arith, weighs, e))),
        )
        together rate more (Finishes es n status w1) (Some (Finishes fs m other last)) price same weighs may enough x = (
          sym same.1 ∙ x.0,
          subst (λ i. IsOver table z live procs fresh s es i (may n)) same.1 (subst (λ gs. IsOver table z live procs fresh s gs other (may n)) same.0 (record {
            lines = 1 + x.1.lines;
            few = let e = enough n in let l = x.1.few in omega (arith, weighs, e, l);
            stops = stops_behind (step_of live procs fresh) 1 1 x.1.lines other s _ [] fs no_objects
                enters_it x.1.stops;
          })),
        )
        together rate more (Fails es n w1) o price same weighs may enough x = tt
        together rate more (Answers es n u w1) (Some (Finishes fs m other last)) price same weighs may enough x = absurd same
        together rate more (Answers es n u w1) (Some (Fails fs m other)) price same weighs may enough x = absurd same
        together rate more (Answers es n u w1) None price same weighs may enough x = absurd same
        together rate more (Finishes es n status w1) (Some (Answers fs m v other)) price same weighs may enough x = absurd same
        together rate more (Finishes es n status w1) (Some (Fails fs m other)) price same weighs may enough x = absurd same
        together rate more (Finishes es n status w1) None price same weighs may enough x = absurd same

  -- ---- a hook with lines

  module _ (hook : Hook) (whole : List LiftedLine) (shift : ℕ) (others : List WordProc) (joined : ℕ → Env) (rate : ℕ)
      (there : from_proc (hook_number first hook ty) procs
      ≡ moved shift (proc_with (hook_number first hook ty) (lines_code table first ty whole [])) ∷ others)
      (law : (lv : ℕ) (l from : Location) (w : World) → (count : ℕ)
      × Alike (perform (hook_deed known hook ty l from) w) (comes_to known count (beginning whole lv l from w))
      × Weighs rate 8 (perform (hook_deed known hook ty l from) w) (price known pace count (beginning whole lv l from w))) (distinct : Distinct whole) where
    abbrev number : ℕ
    number = hook_number first hook ty

    abbrev code : List WordInstr
    code = lines_code table first ty whole []

    module _ (low top : ℕ) (h : Hand) (d : z.Blocks) (w : World) (s : At_line) (to : ℕ) (rest : List WordInstr) (l from : Location) (a b : ℕ)
        (called : IsCalled table z live procs fresh number (a ∷ b ∷ []) low top h d w s to rest) (leads_to : z.Leads true h d l a ty)
        (leads_from : z.Leads (from_own hook) h d from b ty) (fits : top + LIST_BYTES * suc chain ≤ z.limit) where
      abbrev c : Within
      c = inner hook number code shift others there low top h d w s to rest (a ∷ b ∷ []) called fits

      abbrev small_here : top < 2 ^ 32
      small_here = own_small hook number code shift others there low top h d w s to rest (a ∷ b ∷ []) called fits

      abbrev left_here : top + LIST_BYTES + LIST_BYTES * chain ≤ z.limit
      left_here = left hook number code shift others there low top h d w s to rest (a ∷ b ∷ []) called fits

      abbrev pub May_here : Hook → ℕ → Type 0
      May_here =
          MayDo table z live procs fresh h top c d joined first ty level refl small_here refl chain pace steep left_here routines

      -- before the first line
      knows_first : Knows table z h top d (first_env hook ty) (both_places l from) (params_of (proc_with number code) s.1.frame.given)
      knows_first = record {
        at = by_place;
        counts = λ t is. absurd (false≢true is);
        has = λ t x is. absurd (none_some is);
        small = λ is. absurd (false≢true is);
        begun = λ t is. absurd (none_some is);
      }
        where
          by_place : (j : ℕ) (t : Bool × ℕ) → first_at hook ty j ≡ Some t
              → AtPlace table z h top d (both_places l from) (params_of (proc_with number code) s.1.frame.given) j t
          by_place zero t is = record {
            few = omega arith;
            location = l;
            address = a;
            place = refl;
            variable = called.calling.given.0;
            leads = subst (λ (i : Bool × ℕ). z.Leads i.0 h d l a i.1) (same_some (true, ty) t is) leads_to;
          }
          by_place (suc zero) t is = record {
            few = omega arith;
            location = from;
            address = b;
            place = refl;
            variable = called.calling.given.1.0;
            leads = subst (λ (i : Bool × ℕ). z.Leads i.0 h d from b i.1) (same_some (from_own hook, ty) t is) leads_from;
          }
          by_place (suc (suc j)) t is = absurd (none_some is)

      abbrev first_before : Before table z live procs fresh h top c d joined (first_env hook ty) (both_places l from) w
      first_before = record {
        done = suc s.0;
        memory = with_places s.1.memory LIST_BYTES (fresh s.0);
        vars = params_of (proc_with number code) s.1.frame.given;
        given = no_words;
        awaits = 0;
        blocks = d;
        ahead = z.same d;
        here = z.enters low top h d w s.1.memory called.here (top_small hook number code shift others there low top h d w s to rest (a ∷ b ∷ []) called fits)
            (fresh s.0);
        knows = knows_first;
      }

      module _ (all_fit : AllFit table ty joined May_here (first_env hook ty) whole) where
        ends : To_come hook number code shift others there low top h d w s to rest (a ∷ b ∷ []) called fits joined
            (comes_to known (law level l from w).0 (beginning whole level l from w)) (price known pace (law level l from w).0 (beginning whole level l from w))
        ends =
            follows table z live procs fresh h top c d joined first ty level refl small_here refl chain pace steep left_here routines whole (first_env hook ty)
            all_fit distinct (λ name t e. e) (law level l from w).0 whole all_fit distinct (λ name t e. e) first_before

        -- what it works at least pays for its call and for what is beside the rate
        pub hook_comes : LeastDone 8 (perform (hook_deed known hook ty l from) w)
            → Comes table z live procs fresh low top h d (AnyWord table z live procs fresh) s to rest (λ n. 1 + (rate + 1) * n)
            (perform (hook_deed known hook ty l from) w)
        hook_comes works =
            paid (perform (hook_deed known hook ty l from) w) works
            (together hook number code shift others there low top h d w s to rest (a ∷ b ∷ []) called fits joined rate 8
            (perform (hook_deed known hook ty l from) w) (comes_to known (law level l from w).0 (beginning whole level l from w))
            (price known pace (law level l from w).0 (beginning whole level l from w)) (law level l from w).1 (law level l from w).2
            (λ n. 1 + (rate * n + 8)) (λ n. le_refl (1 + (rate * n + 8))) ends)
          where
            enough : (n : ℕ) → 8 ≤ n → 1 + (rate * n + 8) ≤ 1 + (rate + 1) * n
            enough n le = let e = add-mul rate 1 n in omega (arith, le, e)

            paid : (done : Done (Unit {0})) → LeastDone 8 done
                → Comes table z live procs fresh low top h d (AnyWord table z live procs fresh) s to rest (λ n. 1 + (rate * n + 8)) done
                → Comes table z live procs fresh low top h d (AnyWord table z live procs fresh) s to rest (λ n. 1 + (rate + 1) * n) done
            paid (Answers es n u w1) le x = (x.0, back_in table z live procs fresh _ _ (enough n le) x.1)
            paid (Finishes es n status w1) le x = (x.0, over_in table z live procs fresh _ _ (enough n le) x.1)
            paid (Fails es n w1) le x = tt
