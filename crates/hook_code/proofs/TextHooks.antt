-- The hooks of texts that are routines: a copy, and the end.
use Rattle.std.proofs.Common.{◌≡◌, ℕ, zero, suc, ◌+◌, ◌*◌, ◌%◌, ◌^◌, ◌<◌, ◌≤◌, Bool, true, false, List, [], ◌∷◌, Some}
use Rattle.std.proofs.Common.{refl, sym, ap, subst, ◌∙◌, arith, append-nil, le_refl}
use Rattle.std.specs.Prelude.{slice_get}
use Rattle.std.proofs.lemmas.Bool.{false≢true}
use Rattle.arc_base.specs.Behaviour.{no_objects}
use Rattle.nim_types.specs.Forms.{block, hooked}
use Rattle.nim_types.specs.declared.types.TypeDef.{TypeDef}
use Rattle.nim_types.specs.declared.types.TypeDef.TheVariants as D
use Rattle.nim_types.specs.declared.types.TheConstants.{LIST_BYTES}
use Rattle.nim_meaning.specs.Values.{Value, Vacant, Location, length_of, block_of, is_handle}
use Rattle.nim_meaning.specs.State.{World, load, store, is_seen, is_there}
use Rattle.nim_meaning.specs.Deeds.{Deed, Stores, Done, Answers, Finishes, Fails, perform, give, ◌>>=◌, ◌>>◌, costs, does as changes, sees, sets, frees}
use Rattle.nim_meaning.specs.Lifted.{walk, left_vacant}
use Rattle.flat_code.specs.Scene.{Known, known_in, Temps}
use Rattle.flat_code.specs.Lines.{form_in}
use Rattle.rv32_isa.specs.Machine.{Lives}
use Rattle.word_code.specs.declared.word.WordInstr.{WordInstr}
use Rattle.word_code.specs.declared.word.WordInstr.TheVariants as W
use Rattle.word_code.specs.declared.word.WordProc.{WordProc}
use Rattle.word_code.specs.Memory.{with_places}
use Rattle.word_code.specs.Words.{Vars, put, no_words, params_of, WordState, Fresh, step, step_of, from_proc}
use Rattle.word_code.proofs.ForCallers.{none as no_run, then_runs, Within, at, run_argument}
use Rattle.heap_memory.specs.declared.numbers.TheConstants.{RELEASE, TEXT_COPY}
use Rattle.word_code.specs.Joined.{moved}
use Rattle.hook_lifting.specs.declared.lifted.Hook.{Hook}
use Rattle.hook_lifting.specs.declared.lifted.Hook.TheVariants.{Copies, Ends}
use Rattle.hook_lifting.specs.Lifting.{hook_deed, both_places, walk_of}
use Rattle.hook_lifting.specs.Weights.{least_pace, is_built}
use Rattle.hook_lifting.proofs.ForCallers.{done_then, performs_then, LeastDone, least_walk}
use Rattle.hook_code.specs.declared.numbers.TheConstants.{ADDRESS, ONE}
use Rattle.hook_code.specs.HookCode.{hook_called, handle_got, released, hook_number, text_code, proc_with}
use Rattle.hook_code.specs.Surroundings.{Hand, IsHandled, Surroundings}
use Rattle.hook_code.specs.Promises.{from_own, release_most, copy_pace, IsCalled, Comes, AnyWord, Routines, IsKept}
use Rattle.hook_code.proofs.Env.{Env}
use Rattle.hook_code.proofs.Seen.{seen_full}
use Rattle.hook_code.proofs.Known.{put_word, kept_none, kept_between, Knows, AtPlace, none_some, same_some, knows_kept, knows_later}
use Rattle.hook_code.proofs.Lines.{Before, state, stops_behind, Outcome, worked, guarded, got_runs, loaded, loaded_between}
use Rattle.hook_code.proofs.CallRuns.{comes_of, back_reached}
use Rattle.hook_code.proofs.HookRuns.{first_at, first_env, inner, first_state, enters_it, top_small, is_back}

-- the lines of a text's hook, for each of its works, without the call and the return
abbrev text_most : ℕ → ℕ
text_most n = 3 + 28 * n

module _ (table : List TypeDef) (z : Surroundings table) (live : Lives) (procs : List WordProc) (fresh : Fresh) (first ty chain : ℕ)
    (routines : Routines table z live procs fresh) (typed : slice_get table ty ≡ Some D.Text) (hook : Hook) (shift : ℕ) (others : List WordProc)
    (there : from_proc (hook_number first hook ty) procs
    ≡ moved shift (proc_with (hook_number first hook ty) (text_code hook (W.Return 0 ∷ []))) ∷ others) where
  abbrev known : Known
  known = known_in table

  abbrev number : ℕ
  number = hook_number first hook ty

  abbrev code : List WordInstr
  code = text_code hook (W.Return 0 ∷ [])

  abbrev joined : ℕ → Env
  joined n = first_env hook ty

  module _ (low top : ℕ) (h : Hand) (d : z.Blocks) (w : World) (s : ℕ × WordState) (to : ℕ) (rest : List WordInstr) (l from : Location) (a b : ℕ)
      (called : IsCalled table z live procs fresh number (a ∷ b ∷ []) low top h d w s to rest) (leads_to : z.Leads true h d l a ty)
      (leads_from : z.Leads (from_own hook) h d from b ty) (fits : top + LIST_BYTES * suc chain ≤ z.limit) where
    abbrev c : Within
    c = inner table z live procs fresh first ty chain 0 least_pace (le_refl least_pace) routines hook number code shift others there low top h d w s to rest
        (a ∷ b ∷ []) called fits

    small : top < 2 ^ 32
    small = let e = z.limit_small in omega (arith, fits, e)

    left : top + LIST_BYTES + LIST_BYTES * chain ≤ z.limit
    left = omega (arith, fits)

    handles : IsHandled (slice_get table ty)
    handles = subst IsHandled (sym typed) tt

    abbrev vars : Vars
    vars = params_of (proc_with number code) s.1.frame.given

    knows_first : Knows table z h top d (first_env hook ty) (both_places l from) vars
    knows_first = record {
      at = by_place;
      counts = λ t is. absurd (false≢true is);
      has = λ t x is. absurd (none_some is);
      small = λ is. absurd (false≢true is);
      begun = λ t is. absurd (none_some is);
    }
      where
        by_place : (j : ℕ) (t : Bool × ℕ) → first_at hook ty j ≡ Some t → AtPlace table z h top d (both_places l from) vars j t
        by_place zero t is = record {
          few = omega arith;
          location = l;
          address = a;
          place = refl;
          variable = called.calling.given.0;
          leads = subst (λ (i : Bool × ℕ). z.Leads i.0 h d l a i.1) (same_some (true, ty) t is) leads_to;
        }
        by_place (suc zero) t is = record {
          few = omega arith;
          location = from;
          address = b;
          place = refl;
          variable = called.calling.given.1.0;
          leads = subst (λ (i : Bool × ℕ). z.Leads i.0 h d from b i.1) (same_some (from_own hook, ty) t is) leads_from;
        }
        by_place (suc (suc j)) t is = absurd (none_some is)

    abbrev b0 : Before table z live procs fresh h top c d joined (first_env hook ty) (both_places l from) w
    b0 = record {
      done = suc s.0;
      memory = with_places s.1.memory LIST_BYTES (fresh s.0);
      vars = vars;
      given = no_words;
      awaits = 0;
      blocks = d;
      ahead = z.same d;
      here = z.enters low top h d w s.1.memory called.here
          (top_small table z live procs fresh first ty chain 0 least_pace (le_refl least_pace) routines hook number code shift others there low top h d w s to
          rest (a ∷ b ∷ []) called fits) (fresh s.0);
      knows = knows_first;
    }

    abbrev begins_at : ℕ × WordState
    begins_at = (
      suc s.0,
      first_state table z live procs fresh first ty chain 0 least_pace (le_refl least_pace) routines hook number code shift others there low
          top h d w s to rest (a ∷ b ∷ []) called fits,
    )

    abbrev last_line : List WordInstr
    last_line = W.Return 0 ∷ []

    abbrev Out : Done Temps → Type 0
    Out done = Outcome table z live procs fresh h top c d joined (first_env hook ty) last_line text_most done begins_at

    abbrev Does_it : Done (Unit {0}) → Type 0
    Does_it done = Comes table z live procs fresh low top h d (AnyWord table z live procs fresh) s to rest (λ n. 1 + 32 * n) done

    -- it returns
    out_comes : (done : Done (Unit {0})) → LeastDone 8 done → Out (done_then done (λ u new. Answers [] 0 (both_places l from) new)) → Does_it done
    out_comes (Answers es n u w1) works o =
        let r = o.1 in
        let p = r.before.knows.at 0 (true, ty) refl in (
          sym (append-nil es) ∙ o.0,
          is_back table z live procs fresh first ty chain 0 least_pace (le_refl least_pace) routines hook number code shift others there low top h d w s to rest
              (a ∷ b ∷ []) called fits joined
              w1 (4 + 28 * (n + 0)) (record {
                done = r.before.done;
                memory = r.before.memory;
                vars = r.before.vars;
                given = r.before.given;
                awaits = r.before.awaits;
                rest = [];
                word = p.address;
                zero = p.variable;
                blocks = r.before.blocks;
                ahead = r.before.ahead;
                here = r.before.here;
                lines = r.lines;
                few = let few = r.few in omega (arith, few);
                runs = r.runs;
              }) (1 + 32 * n) (omega (arith, works)),
        )
    out_comes (Finishes es n status w1) works o = (
      o.0,
      record {
        lines = 1 + o.1.lines;
        few = let few = o.1.few in omega (arith, few, works);
        stops = stops_behind (step_of live procs fresh) 1 1 o.1.lines status s begins_at [] es no_objects
            (enters_it table z live procs fresh first ty chain 0 least_pace (le_refl least_pace) routines hook number code shift others there low top h d w s to
            rest (a ∷ b ∷ []) called fits) o.1.stops;
      },
    )
    out_comes (Fails es n w1) works o = tt

-- a text's walk works eight times at least
text_works : (table : List TypeDef) (ty : ℕ) → form_in (known_in table) ty ≡ block → (hook : Hook) (l from : Location) (w : World)
    → LeastDone 8 (perform (hook_deed (known_in table) hook ty l from) w)
text_works table ty is hook l from w =
    least_walk hook (form_in (known_in table) ty) (subst (λ f. is_built f ≡ true) (sym is) refl) (subst (λ f. hooked f ≡ true) (sym is) refl) l from w

module _ (table : List TypeDef) (z : Surroundings table) (live : Lives) (procs : List WordProc) (fresh : Fresh) (first ty chain : ℕ)
    (routines : Routines table z live procs fresh) (typed : slice_get table ty ≡ Some D.Text) (shift : ℕ) (others : List WordProc) where
  -- a copy
  module _ (there : from_proc (hook_number first Copies ty) procs
      ≡ moved shift (proc_with (hook_number first Copies ty) (hook_called TEXT_COPY 0 1 (W.Return 0 ∷ []))) ∷ others)
      (form_is : form_in (known_in table) ty ≡ block) where
    pub copy_kept : IsKept table z live procs fresh first (suc chain) 32 Copies ty
    copy_kept low top h d w s to rest l from a b called leads_to leads_from fits =
        let b1 = b0 table z live procs fresh first ty chain routines typed Copies shift others there low top h d w s to rest l from a b called leads_to
        leads_from fits in
        let c1 = c table z live procs fresh first ty chain routines typed Copies shift others there low top h d w s to rest l from a b called leads_to
        leads_from fits in
        let j1 : ℕ → Env = λ n. first_env Copies ty in
        let small1 : top < 2 ^ 32 = (let e = z.limit_small in omega (arith, fits, e)) in
        let left1 : top + LIST_BYTES + LIST_BYTES * chain ≤ z.limit = omega (arith, fits) in
        let code1 = hook_called TEXT_COPY 0 1 (W.Return 0 ∷ []) in
        let l1 = W.Call ADDRESS TEXT_COPY ∷ W.Return 0 ∷ [] in
        let small_a = z.leads_small true h d l a ty leads_to in
        let small_b = z.leads_small false h d from b ty leads_from in
        let given1 = put no_words 0 a in
        let given2 = put given1 1 b in
        let cw : Within = record c1 { awaits = 0 } in
        let runs = then_runs live procs
        (run_argument live procs cw b1.memory (W.Argument 1 1 ∷ l1) b1.vars no_words 0 0 (called.calling.given.0))
        (run_argument live procs cw b1.memory l1 b1.vars given1 1 1 (called.calling.given.1.0)) in
        out_comes table z live procs fresh first ty chain routines typed Copies shift others there low top h d w s to rest l from a b called leads_to
        leads_from fits
        (perform (hook_deed (known_in table) Copies ty l from) w) (text_works table ty form_is Copies l from w)
        (comes_of table z live procs fresh h top c1 d j1 first ty 0 refl small1 refl chain least_pace (le_refl least_pace) left1 routines b1 (W.Return 0 ∷ [])
        code1 (W.Return 0 ∷ []) b1.vars given2
        ADDRESS TEXT_COPY 2 runs (first_env Copies ty) (λ u. both_places l from) d (AnyWord table z live procs fresh) text_most (λ n. copy_pace * n) 0
        (λ n. omega arith)
        (perform (hook_deed (known_in table) Copies ty l from) w)
        (routines.copies_text top (top + LIST_BYTES) h d w ((runs.by fresh b1.done).0, at cw b1.memory l1 b1.vars given2) ADDRESS (W.Return 0 ∷ []) l
        from a b ty
        (record { calling = record { next = refl; given = (put_word no_words 0 a small_a, (put_word given1 1 b small_b, tt)) }; top_is = refl; here = b1.here })
        leads_to leads_from typed)
        (λ n u w1 back.
        back_reached table z live procs fresh h top c1 d j1 first ty 0 refl small1 refl chain least_pace (le_refl least_pace) left1 routines b1
        (W.Return 0 ∷ []) code1 (W.Return 0 ∷ []) b1.vars
        given2 ADDRESS TEXT_COPY 2 runs (first_env Copies ty) (λ u. both_places l from) d (AnyWord table z live procs fresh) text_most (λ n. copy_pace * n) 0
        (λ n. omega arith) n u w1 back (z.same d) (both_places l from) refl (put b1.vars ADDRESS back.word)
        (no_run (step live procs) (at (record c1 { awaits = ADDRESS }) back.memory (W.Return 0 ∷ []) (put b1.vars ADDRESS back.word) no_words))
        (knows_kept table z h top back.after (first_env Copies ty) (both_places l from) b1.vars
        (knows_later table z h top d (first_env Copies ty) (both_places l from) b1.vars b1.knows back.after back.ahead) (put b1.vars ADDRESS back.word)
        (kept_between b1.vars b1.vars ADDRESS back.word (omega arith) (kept_none b1.vars)))))

  -- the end
  module _ (there : from_proc (hook_number first Ends ty) procs
      ≡ moved shift (proc_with (hook_number first Ends ty) (handle_got ONE 0 (released ONE (W.Return 0 ∷ [])))) ∷ others)
      (form_is : form_in (known_in table) ty ≡ block) where
    module _ (low top : ℕ) (h : Hand) (d : z.Blocks) (w : World) (s : ℕ × WordState) (to : ℕ) (rest : List WordInstr) (l from : Location) (a b : ℕ)
        (called : IsCalled table z live procs fresh (hook_number first Ends ty) (a ∷ b ∷ []) low top h d w s to rest) (leads_to : z.Leads true h d l a ty)
        (leads_from : z.Leads (from_own Ends) h d from b ty) (fits : top + LIST_BYTES * suc chain ≤ z.limit) where
      abbrev b1 : Before table z live procs fresh h top
          (c table z live procs fresh first ty chain routines typed Ends shift others there low top h d w s to rest l from a b called leads_to
          leads_from fits) d
          (λ n. first_env Ends ty) (first_env Ends ty) (both_places l from) w
      b1 = b0 table z live procs fresh first ty chain routines typed Ends shift others there low top h d w s to rest l from a b called leads_to leads_from fits

      abbrev c1 : Within
      c1 = c table z live procs fresh first ty chain routines typed Ends shift others there low top h d w s to rest l from a b called leads_to leads_from fits

      abbrev cw : Within
      cw = record c1 { awaits = 0 }

      abbrev end_line : List WordInstr
      end_line = W.Return 0 ∷ []

      abbrev code1 : List WordInstr
      code1 = handle_got ONE 0 (released ONE end_line)

      small1 : top < 2 ^ 32
      small1 = let e = z.limit_small in omega (arith, fits, e)

      left1 : top + LIST_BYTES + LIST_BYTES * chain ≤ z.limit
      left1 = omega (arith, fits)

      is_text : IsHandled (slice_get table ty)
      is_text = subst IsHandled (sym typed) tt

      abbrev value : Value
      value = load w l

      abbrev bytes : ℕ
      bytes = 8 + length_of value

      abbrev put_it : Unit {0} → Deed Temps
      put_it u = give (both_places l from)

      abbrev Out_end : (ℕ → ℕ) → Done Temps → Type 0
      Out_end most done = Outcome table z live procs fresh h top c1 d (λ n. first_env Ends ty) (first_env Ends ty) end_line most done
          (state table z live procs fresh h top c1 d (λ n. first_env Ends ty) b1 code1)

      -- behind what it works for the bytes
      abbrev behind : ℕ → ℕ
      behind n = text_most (bytes + n)

      enough : (n : ℕ) → 4 + (release_most + 0) ≤ behind n
      enough n = omega arith

      released_now : is_seen w l ≡ true → is_handle value ≡ true → is_there w l ≡ true
          → Out_end behind (done_then (perform (frees (block_of value)) (store w l Vacant)) (λ u new. perform (put_it u) new))
      released_now seen is_own here =
          let r = z.reads true top (top + LIST_BYTES) h d w b1.memory l a ty b1.here leads_to is_text here in
          let full = seen_full w l seen in
          let after = z.empties top (top + LIST_BYTES) h d w b1.memory l a ty b1.here leads_to is_text here in
          let l1 = W.Call ADDRESS RELEASE ∷ end_line in
          let k1 = W.Argument 0 14 ∷ l1 in
          let vars3 = loaded live procs cw b1.memory k1 b1.vars no_words ONE a r.length r.place in
          let p = r.place % 2 ^ 32 in
          let small_p : p < 2 ^ 32 = omega arith in
          let runs = then_runs live procs
          (got_runs live procs cw b1.memory k1 b1.vars no_words (λ n q. z.IsHandle true d ty value n q) ONE 0 a (omega arith) (omega arith)
          (called.calling.given.0) r)
          (run_argument live procs cw b1.memory l1 vars3 no_words 0 14 refl) in
          let given1 = put no_words 0 p in
          comes_of table z live procs fresh h top c1 d (λ n. first_env Ends ty) first ty 0 refl small1 refl chain least_pace (le_refl least_pace) left1
          routines b1
          end_line code1 end_line vars3 given1
          ADDRESS RELEASE 4 runs (first_env Ends ty) (λ u. both_places l from) after.0 (AnyWord table z live procs fresh)
          behind (λ n. release_most) 0 enough (perform (frees (block_of value)) (store w l Vacant))
          (routines.releases top (top + LIST_BYTES) h after.0 (store w l Vacant) ((runs.by fresh b1.done).0, at cw b1.memory l1 vars3 given1) ADDRESS
          end_line value
          ty (r.length % 2 ^ 32) p
          (record { calling = record { next = refl; given = (put_word no_words 0 p small_p, tt) }; top_is = refl; here = after.2 }) full is_own
          (z.handle_later true d after.0 value ty (r.length % 2 ^ 32) p after.1 r.are))
          (λ n u w1 back.
          back_reached table z live procs fresh h top c1 d (λ n. first_env Ends ty) first ty 0 refl small1 refl chain least_pace (le_refl least_pace) left1
          routines
          b1 end_line code1 end_line vars3 given1
          ADDRESS RELEASE 4 runs (first_env Ends ty) (λ u. both_places l from) after.0 (AnyWord table z live procs fresh) behind (λ n. release_most) 0
          enough n u w1 back after.1 (both_places l from) refl (put vars3 ADDRESS back.word)
          (no_run (step live procs) (at (record c1 { awaits = ADDRESS }) back.memory end_line (put vars3 ADDRESS back.word) no_words))
          (knows_kept table z h top back.after (first_env Ends ty) (both_places l from) b1.vars
          (knows_later table z h top d (first_env Ends ty) (both_places l from) b1.vars b1.knows back.after
          (z.still_later d after.0 back.after after.1 back.ahead))
          (put vars3 ADDRESS back.word)
          (kept_between b1.vars vars3 ADDRESS back.word (omega arith)
          (loaded_between live procs cw b1.memory k1 b1.vars no_words ONE a r.length r.place (omega arith)))))

      ended_now : Out_end text_most (perform (sees l (λ world v. left_vacant (8 + length_of v) l v) >>= put_it) w)
      ended_now =
          guarded table z live procs fresh h top c1 d (λ n. first_env Ends ty) (first_env Ends ty) end_line _ text_most (λ deed. deed >>= put_it) refl
          (is_seen w l)
          (left_vacant bytes l value) w
          (λ seen.
          guarded table z live procs fresh h top c1 d (λ n. first_env Ends ty) (first_env Ends ty) end_line _ text_most (λ deed. deed >>= put_it) refl
          (is_handle value)
          (costs bytes (sets l Vacant >> frees (block_of value))) w
          (λ is_own.
          worked table z live procs fresh h top c1 d (λ n. first_env Ends ty) (first_env Ends ty) end_line _ text_most bytes
          (perform ((sets l Vacant >> frees (block_of value)) >>= put_it) w)
          (guarded table z live procs fresh h top c1 d (λ n. first_env Ends ty) (first_env Ends ty) end_line _ behind
          (λ deed. (deed >>= (λ u. frees (block_of value))) >>= put_it)
          refl (is_there w l) (changes (Stores l Vacant)) w
          (λ here. subst (Out_end behind) (sym (performs_then (frees (block_of value)) put_it (store w l Vacant))) (released_now seen is_own here)))))

      deed_is : hook_deed (known_in table) Ends ty l from ≡ sees l (λ world v. left_vacant (8 + length_of v) l v)
      deed_is = ap (λ f. walk (walk_of Ends) f l from) form_is

      pub end_comes : Comes table z live procs fresh low top h d (AnyWord table z live procs fresh) s to rest (λ n. 1 + 32 * n)
          (perform (hook_deed (known_in table) Ends ty l from) w)
      end_comes =
          out_comes table z live procs fresh first ty chain routines typed Ends shift others there low top h d w s to rest l from a b called leads_to
          leads_from fits
          (perform (hook_deed (known_in table) Ends ty l from) w) (text_works table ty form_is Ends l from w)
          (subst (λ q. Out_end text_most (done_then (perform q w) (λ u new. Answers [] 0 (both_places l from) new))) (sym deed_is)
          (subst (Out_end text_most) (performs_then (sees l (λ world v. left_vacant (8 + length_of v) l v)) put_it w) ended_now))

    pub end_kept : IsKept table z live procs fresh first (suc chain) 32 Ends ty
    end_kept low top h d w s to rest l from a b called leads_to leads_from fits =
        end_comes low top h d w s to rest l from a b called leads_to leads_from fits
