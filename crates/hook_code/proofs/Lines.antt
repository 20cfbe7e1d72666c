-- What comes of the lines of a hook in word code.
use Rattle.std.proofs.Common.{◌≡◌, ◌≢◌, ◌⊎◌, inl, inr, ℕ, ◌+◌, ◌<◌, ◌≤◌, Bool, true, false, List, [], ◌∷◌, length, Option, Some, None}
use Rattle.std.proofs.Common.{refl, sym, ap, subst, ◌∙◌, arith, append_assoc, add_assoc, ◌++◌}
use Rattle.std.proofs.lemmas.Bool.{cases_eq}
use Rattle.nim_types.specs.declared.types.TypeDef.{TypeDef}
use Rattle.nim_types.specs.declared.types.TheConstants.{LIST_BYTES}
use Rattle.nim_meaning.specs.Values.{Location, InHand, at_base}
use Rattle.nim_meaning.specs.State.{World}
use Rattle.nim_meaning.specs.Deeds.{Deed, Errs, Done, Answers, Finishes, Fails, behind as later_by, perform, unless_gone}
use Rattle.flat_code.specs.Scene.{Located, Temps}
use Rattle.rv32_isa.specs.Machine.{Lives}
use Rattle.rv32_isa.specs.declared.micro_op.Size.TheVariants as bytes_of
use Rattle.word_code.specs.declared.word.WordInstr.{WordInstr}
use Rattle.word_code.specs.declared.word.WordInstr.TheVariants as W
use Rattle.word_code.specs.declared.word.WordProc.{WordProc}
use Rattle.word_code.specs.Memory.{Memory, with_number}
use Rattle.word_code.specs.Words.{Vars, put, WordState, from_label, Fresh, step_of}
use Rattle.arc_base.specs.Simulation.{Steps, Stops}
use Rattle.arc_base.specs.Behaviour.{Live, Ended}
use Rattle.arc_base.specs.Stepping.{Next, seen}
use Rattle.word_code.proofs.ForCallers.{Runs, then_runs, Within, at, run_sum, run_load, run_store}
use Rattle.hook_code.specs.declared.numbers.TheConstants.{ADDRESS}
use Rattle.hook_code.specs.HookCode.{handle_got, handle_with}
use Rattle.hook_code.specs.Surroundings.{Hand, with_one, with_handle, IsRead, IsPut, Surroundings}
use Rattle.hook_code.specs.Promises.{IsOver}
use Rattle.hook_code.proofs.Env.{Env, LeadsBy}
use Rattle.hook_code.proofs.Known.{put_here, put_there, AreKept, Knows, knows_kept}

abbrev pub low_of : (own : ℕ) → Option ℕ → ℕ
low_of own None = own
low_of own (Some ty) = own + LIST_BYTES

abbrev pub hand_of : Hand → (own : ℕ) → Option ℕ → Hand
hand_of h own None = h
hand_of h own (Some ty) = with_one h own ty

-- it ends behind some steps
pub stops_behind : {E S : Type 0} (machine : S → Next E S) (l p q status : ℕ) (s t : S) (es fs : List E) (left : Live) → Steps machine l s es p t
    → Stops machine t fs q status left → Stops machine s (es ++ fs) (p + q) status left
stops_behind machine l p q status s t es fs left x y = record {
  work = x.work + y.work;
  within = omega (arith, x.within, y.within);
  by = let a = x.by y.by.0 in (
    a.0,
    λ out done. a.2 out done ∙ y.by.1 (out ++ es) (done + x.work)
        ∙ ap (λ o. seen o (Ended status left) (done + x.work + y.work)) (append_assoc out es fs)
        ∙ ap (seen (out ++ (es ++ fs)) (Ended status left)) (add_assoc done x.work y.work),
  );
}

-- ---- handles are loaded and stored

module _ (live : Lives) (procs : List WordProc) (c : Within) (m : Memory) (k : List WordInstr) (v g : Vars) where
  -- the variables behind a load
  abbrev pub loaded : (to a n p : ℕ) → Vars
  loaded to a n p = put (put (put v to n) ADDRESS (a + 4)) (to + 3) p

  pub got_runs : (Are : ℕ → ℕ → Type 0) (to j a : ℕ) → 6 ≤ to → j ≤ 3 → v j ≡ Some a → (r : IsRead Are m a)
      → Runs live procs 3 (at c m (handle_got to j k) v g) (at c m k (loaded to a r.length r.place) g)
  got_runs Are to j a low few has r =
      let l1 : List WordInstr = W.Load (to + 3) ADDRESS bytes_of.Word ∷ k in
      let l2 : List WordInstr = W.Sum ADDRESS j 4 ∷ l1 in
      let v1 : Vars = put v to r.length in
      let v2 : Vars = put v1 ADDRESS (a + 4) in
      then_runs live procs (run_load live procs c m l2 v g to j bytes_of.Word has r.first)
      (then_runs live procs (run_sum live procs c m l1 v1 g ADDRESS j 4 (put_there v to r.length j (λ e. omega (arith, e, low, few)) ∙ has))
      (run_load live procs c m k v2 g (to + 3) ADDRESS bytes_of.Word (put_here v1 ADDRESS (a + 4)) r.second))

  pub loaded_kept : (to a n p : ℕ) → AreKept (put (put v to n) (to + 3) p) (loaded to a n p)
  loaded_kept to a n p u few = by (cases_eq u (to + 3))
    where
      x : Vars
      x = put (put v to n) ADDRESS (a + 4)

      by : (u ≡ to + 3) ⊎ (u ≢ to + 3) → loaded to a n p u ≡ put (put v to n) (to + 3) p u
      by (inl e) =
          subst (λ i. put x (to + 3) p i ≡ put (put v to n) (to + 3) p i) (sym e)
          (put_here x (to + 3) p ∙ sym (put_here (put v to n) (to + 3) p))
      by (inr ne) =
          put_there x (to + 3) p u ne ∙ (put_there (put v to n) ADDRESS (a + 4) u (λ e. omega (arith, e, few))
          ∙ sym (put_there (put v to n) (to + 3) p u ne))

  pub loaded_there : (to a n p u : ℕ) → u ≤ 10 → u ≢ to → u ≢ to + 3 → loaded to a n p u ≡ v u
  loaded_there to a n p u few ne other =
      put_there (put (put v to n) ADDRESS (a + 4)) (to + 3) p u other
      ∙ (put_there (put v to n) ADDRESS (a + 4) u (λ e. omega (arith, e, few)) ∙ put_there v to n u ne)

  -- and of what comes between
  pub loaded_between : (to a n p : ℕ) → 11 ≤ to → AreKept v (loaded to a n p)
  loaded_between to a n p low u few =
      put_there (put (put v to n) ADDRESS (a + 4)) (to + 3) p u (λ e. omega (arith, e, low, few))
      ∙ (put_there (put v to n) ADDRESS (a + 4) u (λ e. omega (arith, e, few)) ∙ put_there v to n u (λ e. omega (arith, e, low, few)))

  pub stored_runs : (j u t a n p : ℕ) → j ≤ 3 → t + 3 ≢ ADDRESS → v j ≡ Some a → v u ≡ Some n → v (t + 3) ≡ Some p → (Then : Memory → Type 0)
      → (first : IsPut Then m a n p)
      → Runs live procs 3 (at c m (handle_with j u t k) v g) (at c (with_handle m a n p) k (put v ADDRESS (a + 4)) g)
  stored_runs j u t a n p few away has long there Then r =
      let l1 : List WordInstr = W.Store ADDRESS (t + 3) bytes_of.Word ∷ k in
      let l2 : List WordInstr = W.Sum ADDRESS j 4 ∷ l1 in
      let m1 : Memory = with_number m a bytes_of.Word n in
      then_runs live procs (run_store live procs c m l2 v g j u bytes_of.Word has long r.first)
      (then_runs live procs (run_sum live procs c m1 l1 v g ADDRESS j 4 has)
      (run_store live procs c m1 k (put v ADDRESS (a + 4)) g ADDRESS (t + 3) bytes_of.Word (put_here v ADDRESS (a + 4))
      (put_there v ADDRESS (a + 4) (t + 3) away ∙ there) r.second))

module _ (table : List TypeDef) (z : Surroundings table) (live : Lives) (procs : List WordProc) (fresh : Fresh) (h : Hand) (own : ℕ) (c : Within)
    (start : z.Blocks) (joined : ℕ → Env) where
  abbrev At_line : Type 0
  At_line = ℕ × WordState

  abbrev pub top : ℕ
  top = own + LIST_BYTES

  abbrev pub HereBy : Env → z.Blocks → World → Memory → Type 0
  HereBy e d w m = z.Here (low_of own e.begun) top (hand_of h own e.begun) d w m

  -- a state before a line, by what is known of its temporaries
  pub record Before (e : Env) (temps : Temps) (w : World) : Type 0 where
    pub done : ℕ
    pub memory : Memory
    pub vars : Vars
    pub given : Vars
    pub awaits : ℕ
    pub blocks : z.Blocks
    pub ahead : z.Later start blocks
    pub here : HereBy e blocks w memory
    pub knows : Knows table z h own blocks e temps vars

  abbrev pub waits_for : (awaits : ℕ) → Within
  waits_for n = record c { awaits = n }

  abbrev pub word_state : {e : Env} {temps : Temps} {w : World} → Before e temps w → List WordInstr → WordState
  word_state b code = at (waits_for b.awaits) b.memory code b.vars b.given

  abbrev pub state : {e : Env} {temps : Temps} {w : World} → Before e temps w → List WordInstr → At_line
  state b code = (b.done, word_state b code)

  abbrev pub Steps_to : (lines : ℕ) → (s t : At_line) → Type 0
  Steps_to n s t = Steps (step_of live procs fresh) n s [] n t

  -- so many silent lines at most lead to such a state
  pub record Reached (e : Env) (temps : Temps) (w : World) (code : List WordInstr) (s : At_line) (most : ℕ) : Type 0 where
    pub before : Before e temps w
    pub lines : ℕ
    pub few : lines ≤ most
    pub runs : Steps_to lines s (state before code)

  -- what comes of a line that did something, in so many lines at most for what it worked
  abbrev pub Outcome : Env → List WordInstr → (most : ℕ → ℕ) → Done Temps → At_line → Type 0
  Outcome f code most (Answers es n temps w) s = (es ≡ []) × Reached f temps w code s (most n)
  Outcome f code most (Finishes es n status w) s = (status ≡ 1) × IsOver table z live procs fresh s es status (most n)
  Outcome f code most (Fails es n w) s = Unit {0}

  -- it leaps to a label
  abbrev pub IsLed : (name : ℕ) → Temps → World → At_line → (most : ℕ) → Type 0
  IsLed name temps w s most = (there : List WordInstr) → from_label name c.proc.lines ≡ Some there → Reached (joined name) temps w there s most

  -- silent lines lead to the return, with it so many at most, in a world, with a word
  pub record IsReturned (w : World) (s : At_line) (most : ℕ) : Type 0 where
    pub done : ℕ
    pub memory : Memory
    pub vars : Vars
    pub given : Vars
    pub awaits : ℕ
    pub rest : List WordInstr
    pub word : ℕ
    pub zero : vars 0 ≡ Some word
    pub blocks : z.Blocks
    pub ahead : z.Later start blocks
    pub here : z.Here own top h blocks w memory
    pub lines : ℕ
    pub few : lines < most
    pub runs : Steps_to lines s (done, at (waits_for awaits) memory (W.Return 0 ∷ rest) vars given)

  module _ (f : Env) (code : List WordInstr) (s : At_line) (most : ℕ → ℕ) where
    abbrev pub Comes_of : Done Temps → Type 0
    Comes_of d = Outcome f code most d s

    pub worked : (n : ℕ) (d : Done Temps) → Outcome f code (λ i. most (n + i)) d s → Comes_of (later_by [] n d)
    worked n (Answers es m temps w) o = o
    worked n (Finishes es m status w) o = o
    worked n (Fails es m w) o = o

    -- what is looked at is there, or nothing is said
    pub guarded : {A : Type 0} (k : Deed A → Deed Temps) → k Errs ≡ Errs → (there : Bool) (deed : Deed A) (w : World)
        → (there ≡ true → Comes_of (perform (k deed) w)) → Comes_of (perform (k (unless_gone there deed)) w)
    guarded k is true deed w o = o refl
    guarded k is false deed w o = subst (λ d. Comes_of (perform d w)) (sym is) tt

  -- where a location is, be it that of the value under way
  pub record Led (e : Env) (temps : Temps) (vars : Vars) (d : z.Blocks) (j : ℕ) (o : Bool) (ty : ℕ) : Type 0 where
    pub few : j ≤ 3
    pub location : Location
    pub address : ℕ
    pub place : temps.places j ≡ Some (Located location)
    pub variable : vars j ≡ Some address
    pub leads : z.Leads o (hand_of h own e.begun) d location address ty

  -- what is one's own may be read, too
  pub as_asked : (asked o : Bool) → (asked ≡ true → o ≡ true) → (hand : Hand) (d : z.Blocks) (l : Location) (a ty : ℕ) → z.Leads o hand d l a ty
      → z.Leads asked hand d l a ty
  as_asked true o owns hand d l a ty leads = subst (λ q. z.Leads q hand d l a ty) (owns refl) leads
  as_asked false true owns hand d l a ty leads = z.leads_read hand d l a ty leads
  as_asked false false owns hand d l a ty leads = leads

  module _ (e : Env) (temps : Temps) (w : World) (b : Before e temps w) where
    pub led_by : (j : ℕ) (o : Bool) (ty : ℕ) → LeadsBy e j o ty → Led e temps b.vars b.blocks j o ty
    led_by j o ty (inl is) =
        let x = b.knows.at j (o, ty) is in record {
          few = x.few;
          location = x.location;
          address = x.address;
          place = x.place;
          variable = x.variable;
          leads = more e.begun x.leads;
        }
      where
        more : (begun : Option ℕ) → z.Leads o h b.blocks (b.knows.at j (o, ty) is).location (b.knows.at j (o, ty) is).address ty
            → z.Leads o (hand_of h own begun) b.blocks (b.knows.at j (o, ty) is).location (b.knows.at j (o, ty) is).address ty
        more None l = l
        more (Some t) l = z.leads_more o h b.blocks (b.knows.at j (o, ty) is).location (b.knows.at j (o, ty) is).address ty own t l
    led_by j o ty (inr is) =
        let x = b.knows.begun ty is.1 in record {
          few = let e = is.0 in omega (arith, e);
          location = at_base (InHand (z.before + length h));
          address = own;
          place = subst (λ i. temps.places i ≡ Some (Located (at_base (InHand (z.before + length h))))) (sym is.0) x.place;
          variable = subst (λ i. b.vars i ≡ Some own) (sym is.0) x.variable;
          leads = subst (λ q. z.Leads q (hand_of h own e.begun) b.blocks (at_base (InHand (z.before + length h))) own ty) (sym is.2)
              (subst (λ o. z.Leads true (hand_of h own o) b.blocks (at_base (InHand (z.before + length h))) own ty) (sym is.1)
              (z.hand_leads (low_of own (Some ty)) top own ty h b.blocks w b.memory
              (subst (λ o. z.Here (low_of own o) top (hand_of h own o) b.blocks w b.memory) is.1 b.here)));
        }

    -- with other variables for what comes between, and other numbers given
    pub between : (vars given : Vars) → AreKept b.vars vars → Before e temps w
    between vars given kept = record {
      done = b.done;
      memory = b.memory;
      vars = vars;
      given = given;
      awaits = b.awaits;
      blocks = b.blocks;
      ahead = b.ahead;
      here = b.here;
      knows = knows_kept table z h own b.blocks e temps b.vars b.knows vars kept;
    }
