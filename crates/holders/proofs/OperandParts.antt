-- Operands, one after another.
use Rattle.std.proofs.Common.{◌≡◌, refl, sym, ap, ap₂, subst, ◌∙◌, arith, ℕ, suc, Bool, true, false, inl, inr, ◌⊎◌, List, [], ◌∷◌, ◌++◌, Option}
use Rattle.std.specs.Prelude.{◌&&◌, not}
use Rattle.std.proofs.lemmas.Bool.{false≢true, and_left, and_right}
use Rattle.nim_types.specs.Types.{Ty}
use Rattle.nim_types.specs.Forms.{Form}
use Rattle.nim_program.specs.declared.operation.Use.{Use}
use Rattle.nim_program.specs.declared.operation.Use.TheVariants.{Owned, Given as ToPlace, Held, Lent, Looked}
use Rattle.nim_program.specs.Program.{Expr, Apply, Read, Early, Choose, Path, Args, NoArg, ByValue, ByPath, type_of, node_of}
use Rattle.nim_program.specs.Scopes as scopes
use Rattle.nim_meaning.specs.Values.{Value, Base, Waiting, InBlock, at_base, Given, At}
use Rattle.nim_meaning.specs.Marks.{Member, Distinct}
use Rattle.nim_meaning.specs.State.{World, State}
use Rattle.nim_meaning.specs.Acts.{Does, give, ◌>>=◌, branch}
use Rattle.nim_meaning.specs.Here.{Here, gives_hooked, form_for}
use Rattle.nim_meaning.specs.Waiting.{Wait, waiting, waiting_at}
use Rattle.nim_meaning.specs.Shapes.{is_text, is_lent}
use Rattle.nim_meaning.specs.Aims.{Ready, Evaluated, Aimed, is_lent_own, operand_for}
use Rattle.nim_meaning.specs.Steps.{gets_copy}
use Rattle.nim_meaning.specs.Meaning.{eval, aimed, ready_all, source}
use Rattle.holders.specs.Owned.{Constant, Has, IsBase}
use Rattle.holders.specs.Sure.{Comes}
use Rattle.holders.specs.Territory.{Owner, Cells, a_cell, Territory, first_owner}
use Rattle.holders.specs.Running.{IsOutside}
use Rattle.holders.specs.Staging.{Stage, Holding, StageWith}
use Rattle.holders.specs.Used.{WaitsThere}
use Rattle.holders.proofs.Owning.{in_first, in_second, distinct_first, distinct_apart, from_full}
use Rattle.holders.proofs.Bases.{loaded}
use Rattle.holders.proofs.Working.{all_so}
use Rattle.holders.proofs.Framing.{stage_begins}
use Rattle.holders.proofs.Coming.{comes_then}
use Rattle.holders.specs.Asked.{Limits}
use Rattle.holders.specs.Evaluating.{value_nodes, path_nodes, operand_nodes, at_nodes, waits_inside, waits_itself, Leaves}
use Rattle.holders.specs.Evaluating.{is_bare, is_seen, is_held, is_waiting, Hand, empty, holds, AtHand}
use Rattle.holders.specs.Evaluating.{Readied, none_ready, bare_ready, held_ready, lent_ready, aim_ready, seen_ready, hand_ready, AllReady}
use Rattle.holders.specs.Evaluating.{Lasts}
use Rattle.holders.proofs.Constants.{hooked_is}
use Rattle.holders.proofs.PartsInTurn.{leaves_none, begins_part, First, begins_next, stage_next, holding_next, leaves_next, path_in, waiting_in, operands_in}
use Rattle.holders.proofs.PartsInTurn.{stage_wider}
use Rattle.holders.proofs.PartsInTurn.{waits_outside, in_is}
use Rattle.holders.specs.Claimed.{NoExit, HasValue, ValueSo, HasAim, AimSo, ReadySo}
use Rattle.holders.proofs.Claims.{behind_value, value_bare, scene_passes}
use Rattle.holders.proofs.Claims.{none_is_one, nothing_more, behind_alone}
use Rattle.holders.proofs.OperandKinds.{readied_behind, aims_more, Regular, plain_operand, not_lent, lent_none, lent_one, one_hooked, owned_none}
use Rattle.holders.proofs.OperandKinds.{bare_for}
use Rattle.holders.proofs.Staging.{hand_stage}

-- ---- a value is ready

abbrev pub use_number : Use → ℕ
use_number Owned = 0
use_number ToPlace = 1
use_number Held = 2
use_number Lent = 3
use_number Looked = 4

pub held_look : Held ≡ Looked → ⊥
held_look e = omega (arith, ap use_number e)

pub lent_look : Lent ≡ Looked → ⊥
lent_look e = omega (arith, ap use_number e)

pub held_owned : {how : Use} → how ≡ Held → (how ≡ Owned) ⊎ (how ≡ ToPlace) → ⊥
held_owned e (inl q) = omega (arith, ap use_number (sym e ∙ q))
held_owned e (inr q) = omega (arith, ap use_number (sym e ∙ q))

pub lent_owned : {how : Use} → how ≡ Lent → (how ≡ Owned) ⊎ (how ≡ ToPlace) → ⊥
lent_owned e (inl q) = omega (arith, ap use_number (sym e ∙ q))
lent_owned e (inr q) = omega (arith, ap use_number (sym e ∙ q))

-- what waits is seen where it waits
pub waiting_seen : {f : Form} {b : Base} {os : List Owner} {v : Value} {now : World} →
    Territory (record { form = f; at = at_base b } ∷ os) now → IsBase now b v → (bs : List ℕ) × Has now Constant f v bs
waiting_seen {f} {b} {os} {v} {now} t base = by t.blocks t.cells
  where
    by : (bs : List ℕ) → Cells now (record { form = f; at = at_base b } ∷ os) bs → (bs : List ℕ) × Has now Constant f v bs
    by _ (a_cell {w = w} {v = u} {bs = ds} c rest) =
        (ds, subst (λ x. Has now Constant f x ds) (sym c.is ∙ (sym (loaded now (at_base b) w c.at.base) ∙ loaded now (at_base b) v base)) (from_full c.has))

module _ (here : Here) (scope : scopes.Here) (limits : Limits) (root : (global : Bool) → ℕ → ℕ) (first places : ℕ) (os : List Owner)
    (uses : (position : ℕ) → Use) where
  abbrev pub All : (args : Args) (i : ℕ) (nodes old : List ℕ) → World → List Ready → World → Type 0
  All args i nodes old start xs now = AllReady here scope limits root uses args i first places nodes os old start xs now

  abbrev pub Readied_as : List Owner → World → Hand → Args → ℕ → List Ready → Type 0
  Readied_as ms now h args i xs = Readied here scope limits root uses ms os now h args i xs

  pub none_so : (i : ℕ) → ReadySo here scope limits root first places os uses NoArg i
  none_so i nodes s b scene = record {
    own = [];
    later = nodes;
    hand = empty;
    leaves = leaves_none b.distinct;
    stage = stage_begins b.territory tt b.active;
    ready = none_ready;
  }

  -- the operand of a value
  abbrev pub operand : Expr → Use → Value → Ready
  operand value how v = Evaluated (operand_for (is_lent_own here.facts how value) here.level (node_of value).number v)

  -- of one that lasts: what it leaves, and the list with it in front
  pub record LastsSo (value : Expr) (i : ℕ) (nodes old : List ℕ) (start : World) (v : Value) (now : World) : Type 0 where
    pub own : List Owner
    pub later : List ℕ
    pub leaves : Leaves here.level nodes (waiting here.facts here.modes value (uses i)) own later
    pub stage : Stage (at_nodes here.level (value_nodes value)) own os first places later old start now
    pub more : (ks : List Owner) (last : World) {h : Hand} {rest : Args} {xs : List Ready} →
        (gives_hooked here.facts (type_of value) ≡ true → (x : Value) → IsBase now (Waiting here.level (node_of value).number) x →
        IsBase last (Waiting here.level (node_of value).number) x) → Readied_as (own ++ ks) last h rest (suc i) xs →
        Readied_as (own ++ ks) last h (ByValue value rest) i (operand value (uses i) v ∷ xs)

  pub lasts_so : (value : Expr) (i : ℕ) → Regular here.facts value → Distinct (value_nodes value) → Lasts here (uses i) value →
      {nodes old : List ℕ} {start : World} {v : Value} {now : World} → HasValue here first places os value (uses i) nodes old start v now →
      LastsSo value i nodes old start v now
  lasts_so value i regular d (inl unhooked) {nodes} {old} {start} {v} {now} h =
      let after = behind_value here value (uses i) d h in
      record {
        own = after.own;
        later = after.later;
        leaves = after.leaves;
        stage = behind_alone here value (uses i) d (λ how. unhooked) h;
        more = λ ks last {h = g} {rest} {xs} kept ready. subst (λ x. Readied_as (after.own ++ ks) last g (ByValue value rest) i (Evaluated x ∷ xs))
            (sym (plain_operand here.facts here.modes value (uses i) here.level (node_of value).number v unhooked))
            (bare_ready (inl (sym (hooked_is here.facts (type_of value)) ∙ unhooked)) (value_bare here value (uses i) unhooked h) ready);
      }
  lasts_so value i regular d (inr purpose) {nodes} {old} {start} {v} {now} h = by h
    where
      of_use : {A : Type 0} → (uses i ≡ Held → A) → (uses i ≡ Lent → A) → A
      of_use {A} held lent = of purpose
        where
          of : (uses i ≡ Held) ⊎ (uses i ≡ Lent) → A
          of (inl e) = held e
          of (inr e) = lent e

      not_own : waits_itself here.facts here.modes value (uses i) ≡ [] → is_lent_own here.facts (uses i) value ≡ false
      not_own none =
          of_use (λ e. ap (λ how. is_lent_own here.facts how value) e ∙ and_right (gives_hooked here.facts (type_of value)) false refl)
          (λ e. ap (λ how. is_lent_own here.facts how value) e
          ∙ lent_none here.facts here.modes value regular (sym (ap (λ how. waits_itself here.facts here.modes value how) e) ∙ none))

      by : HasValue here first places os value (uses i) nodes old start v now → LastsSo value i nodes old start v now
      by (is_bare {ms = ms} {later = later} which a none s bare) =
          let after = behind_value here value (uses i) d (is_bare which a none s bare) in
          record {
            own = after.own;
            later = after.later;
            leaves = after.leaves;
            stage = after.stage;
            more = λ ks last {h = g} {rest} {xs} kept ready. subst (λ l. Readied_as (after.own ++ ks) last g (ByValue value rest) i
                (Evaluated (operand_for l here.level (node_of value).number v) ∷ xs))
                (sym (not_own none)) (bare_ready (bare_for here.facts (uses i) value which (not_own none)) bare ready);
          }
      by (is_seen look a none s seen) = of_use (λ e. absurd (held_look (sym e ∙ look))) (λ e. absurd (lent_look (sym e ∙ look)))
      by (is_held owner a none held) = of_use (λ e. absurd (held_owned e owner)) (λ e. absurd (lent_owned e owner))
      by (is_waiting {ms = ms} {later = later} {ty = ty} a one w) =
          let after = behind_value here value (uses i) d (is_waiting a one w) in
          record {
            own = after.own;
            later = after.later;
            leaves = after.leaves;
            stage = after.stage;
            more = λ ks last {h = g} {rest} {xs} kept ready. of_use
                (λ e. subst (λ x. Readied_as (after.own ++ ks) last g (ByValue value rest) i (Evaluated x ∷ xs))
                (sym (not_lent here.facts here.modes value (uses i) here.level (node_of value).number v (ap is_lent e)))
                (held_ready e (one_hooked here.facts here.modes value (uses i) one) first_owner
                (kept (one_hooked here.facts here.modes value (uses i) one) v w.base) ready))
                (λ e. let own = lent_one here.facts here.modes value (sym (ap (λ how. waits_itself here.facts here.modes value how) e) ∙ one) in
                subst (λ l. Readied_as (after.own ++ ks) last g (ByValue value rest) i
                (Evaluated (operand_for l here.level (node_of value).number v) ∷ xs))
                (sym (ap (λ how. is_lent_own here.facts how value) e ∙ ap₂ (λ m n. m && not n) own.hooks own.text))
                (lent_ready e own.hooks own.text first_owner ready));
          }

  -- ---- one before others

  -- what waits at a node of the first part is the same behind the second
  pub kept_waiting : {out : ℕ → ℕ} {ns one two nodes : List ℕ} {ws : List Wait} {ms ks : List Owner} {middle later : List ℕ} {start mid last : World}
      (p : First here.level first places ns one two os nodes ws ms middle start mid) →
      StageWith out (at_nodes here.level two) ks os first places later (begins_next p).territory.blocks mid last → (node : ℕ) → Member node one → (x : Value) →
      IsBase mid (Waiting here.level node) x → IsBase last (Waiting here.level node) x
  kept_waiting {ns = ns} {one = one} {two = two} p u node m x base =
      u.runs.passes.bases (Waiting here.level node) x base (waits_outside here.level node two (λ q. p.apart node m q))
      (all_so (λ o. IsOutside (at_nodes here.level ns) o.at.base) (λ o. Waiting here.level node ≡ o.at.base → ⊥) os
      (λ o out e. inside (subst (λ c. IsOutside (at_nodes here.level ns) c) (sym e) out)) p.before.outside)
      (λ k e q. no_block k e)
    where
      no_block : (k : ℕ) → Waiting here.level node ≡ InBlock k → ⊥
      no_block k e = subst waits_there e tt
        where
          waits_there : Base → Type 0
          waits_there (Waiting l n) = Unit {0}
          waits_there b = ⊥

      inside : IsOutside (at_nodes here.level ns) (Waiting here.level node) → ⊥
      inside (inl less) = omega (arith, less)
      inside (inr q) = q.1 (in_is node ns (p.of_one node m))

  pub node_in : (value : Expr) → gives_hooked here.facts (type_of value) ≡ true → Regular here.facts value → Member (node_of value).number (value_nodes value)
  node_in (Apply node ty act operands) hooked regular = inl refl
  node_in (Read path) hooked regular = inl refl
  node_in (Early node ty short left right) hooked regular = absurd (false≢true (sym regular ∙ hooked))
  node_in (Choose node ty chooser parts) hooked regular = inl refl

  pub hand_next : (h : Hand) (ks : List Owner) (later : List ℕ) (last : World) {ns one two nodes : List ℕ} {ws : List Wait} {ms : List Owner} {middle : List ℕ}
      {start mid : World} (p : First here.level first places ns one two os nodes ws ms middle start mid) →
      AtHand h (at_nodes here.level two) ks os first places later (begins_next p).territory.blocks mid last →
      AtHand h (at_nodes here.level ns) (ms ++ ks) os first places later p.before.territory.blocks start last
  hand_next empty ks later last p s = stage_next p s
  hand_next (holds f v) ks later last p s = holding_next p s

  pub value_then : (value : Expr) (rest : Args) (i : ℕ) → gets_copy here (uses i) value ≡ false → Regular here.facts value →
      Distinct (value_nodes value ++ operand_nodes rest) → Lasts here (uses i) value →
      ValueSo here scope limits root first places os value (uses i) → ReadySo here scope limits root first places os uses rest (suc i) →
      ReadySo here scope limits root first places os uses (ByValue value rest) i
  value_then value rest i copy regular d purpose so rest_so nodes s b scene =
      subst (λ c. Comes (All (ByValue value rest) i nodes b.territory.blocks s.world) NoExit (branch c copied evaluated s)) (sym copy)
      (comes_then (eval value (uses i) here) (λ v. ready_all rest uses (suc i) here >>= (λ ready. give (operand value (uses i) v ∷ ready)))
      (HasValue here first places os value (uses i) nodes b.territory.blocks s.world) Q NoExit s
      (so nodes s (begins_part (one ++ two) one b (λ n m. in_first n one two m)) scene)
      (λ v mid h. behind v mid (lasts_so value i regular (distinct_first one two d) purpose h)))
    where
      one : List ℕ
      one = value_nodes value

      two : List ℕ
      two = operand_nodes rest

      copied : Does (List Ready)
      copied = source value here >>= (λ l. ready_all rest uses (suc i) here >>= (λ ready. give (Evaluated (At l) ∷ ready)))

      evaluated : Does (List Ready)
      evaluated = eval value (uses i) here >>= (λ v. ready_all rest uses (suc i) here >>= (λ ready. give (operand value (uses i) v ∷ ready)))

      Q : List Ready → World → Type 0
      Q = All (ByValue value rest) i nodes b.territory.blocks s.world

      behind : (v : Value) (mid : State) → LastsSo value i nodes b.territory.blocks s.world v mid.world →
          Comes Q NoExit ((ready_all rest uses (suc i) here >>= (λ ready. give (operand value (uses i) v ∷ ready))) mid)
      behind v mid l =
          let p : First here.level first places (one ++ two) one two os nodes (waiting here.facts here.modes value (uses i)) l.own l.later s.world mid.world =
          record {
            before = b;
            of_one = λ n m. in_first n one two m;
            of_two = λ n m. in_second n one two m;
            inside = λ n m. waiting_in here.facts here.modes value (uses i) n m;
            apart = λ n m q. distinct_apart n one two d m q;
            leaves = l.leaves;
            stage = l.stage;
          } in
          comes_then (ready_all rest uses (suc i) here) (λ ready. give (operand value (uses i) v ∷ ready))
          (All rest (suc i) l.later (begins_next p).territory.blocks mid.world) Q NoExit mid
          (rest_so l.later mid (begins_next p) (scene_passes one l.stage.runs.passes scene))
          (λ xs last r. record {
            own = l.own ++ r.own;
            later = r.later;
            hand = r.hand;
            leaves = leaves_next p (λ n m. operands_in here.facts here.modes rest uses (suc i) n m) r.leaves;
            stage = hand_next r.hand r.own r.later last.world p r.stage;
            ready = l.more r.own last.world (λ hooked x base. kept_waiting p (hand_stage r.hand r.stage) (node_of value).number
                (node_in value hooked regular) x base)
                (readied_behind uses l.own r.ready);
          })

  pub path_then : (path : Path) (rest : Args) (i : ℕ) → Distinct (path_nodes path ++ operand_nodes rest) →
      AimSo here scope limits root first places os path → ReadySo here scope limits root first places os uses rest (suc i) →
      ReadySo here scope limits root first places os uses (ByPath path rest) i
  path_then path rest i d so rest_so nodes s b scene =
      let one = path_nodes path in
      let two = operand_nodes rest in
      let ws = waiting_at here.facts here.modes path in
      let Q = All (ByPath path rest) i nodes b.territory.blocks s.world in
      comes_then (aimed path here) (λ aim. ready_all rest uses (suc i) here >>= (λ ready. give (Aimed aim ∷ ready)))
      (HasAim here scope limits root first places os path one ws nodes b.territory.blocks s.world) Q NoExit s
      (so nodes s (begins_part (one ++ two) one b (λ n m. in_first n one two m)) scene)
      (λ aim mid a.
      let p : First here.level first places (one ++ two) one two os nodes ws a.own a.later s.world mid.world = record {
        before = b;
        of_one = λ n m. in_first n one two m;
        of_two = λ n m. in_second n one two m;
        inside = λ n m. path_in here.facts here.modes path n m;
        apart = λ n m q. distinct_apart n one two d m q;
        leaves = a.leaves;
        stage = a.stage;
      } in
      comes_then (ready_all rest uses (suc i) here) (λ ready. give (Aimed aim ∷ ready))
      (All rest (suc i) a.later (begins_next p).territory.blocks mid.world) Q NoExit mid
      (rest_so a.later mid (begins_next p) (scene_passes one a.stage.runs.passes scene))
      (λ xs last r. record {
        own = a.own ++ r.own;
        later = r.later;
        hand = r.hand;
        leaves = leaves_next p (λ n m. operands_in here.facts here.modes rest uses (suc i) n m) r.leaves;
        stage = hand_next r.hand r.own r.later last.world p r.stage;
        ready = aim_ready (aims_more r.own a.aims) (readied_behind uses a.own r.ready);
      }))

  -- ---- the last one

  pub last_ready : (value : Expr) (i : ℕ) {h : Hand} {ms : List Owner} {nodes later old : List ℕ} {start now : World} {xs : List Ready} →
      Leaves here.level nodes (waiting here.facts here.modes value (uses i)) ms later →
      AtHand h (at_nodes here.level (value_nodes value ++ [])) ms os first places later old start now →
      Readied_as ms now h (ByValue value NoArg) i xs → All (ByValue value NoArg) i nodes old start xs now
  last_ready value i {h} {ms} {nodes} {later} a s r = record {
    own = ms;
    later = later;
    hand = h;
    leaves = subst (λ ws. Leaves here.level nodes ws ms later) (sym (nothing_more (waiting here.facts here.modes value (uses i)))) a;
    stage = s;
    ready = r;
  }

  pub wide_last : (ns : List ℕ) (n : ℕ) → Member n ns → Member n (ns ++ [])
  wide_last ns n m = in_first n ns [] m

  pub holding_last : (ns : List ℕ) {f : Form} {v : Value} {ms : List Owner} {later old : List ℕ} {start now : World} →
      Holding f v (at_nodes here.level ns) ms os first places later old start now →
      Holding f v (at_nodes here.level (ns ++ [])) ms os first places later old start now
  holding_last ns h = record {
    out = h.out;
    stage = stage_wider (ns ++ []) ns (wide_last ns) h.stage;
    under = h.under;
    came = h.came;
    out_is = h.out_is;
  }

  pub value_ready : (value : Expr) (i : ℕ) → Regular here.facts value → Distinct (value_nodes value) → {nodes old : List ℕ} {start : World} {v : Value}
      {now : World} → HasValue here first places os value (uses i) nodes old start v now →
      All (ByValue value NoArg) i nodes old start (operand value (uses i) v ∷ []) now
  value_ready value i regular d {nodes} {old} {start} {v} {now} h = by (gives_hooked here.facts (type_of value)) refl
    where
      ns : List ℕ
      ns = value_nodes value

      Goal : Type 0
      Goal = All (ByValue value NoArg) i nodes old start (operand value (uses i) v ∷ []) now

      -- the operand is the value
      given : is_lent_own here.facts (uses i) value ≡ false → All (ByValue value NoArg) i nodes old start (Evaluated (Given v) ∷ []) now → Goal
      given e all =
          subst (λ l. All (ByValue value NoArg) i nodes old start (Evaluated (operand_for l here.level (node_of value).number v) ∷ []) now) (sym e) all

      no_own_lent : (how : Use) → is_lent how ≡ false → is_lent_own here.facts how value ≡ false
      no_own_lent how e =
          and_right (gives_hooked here.facts (type_of value)) (is_lent how && not (is_text value)) (and_left (is_lent how) (not (is_text value)) e)

      bare_alone : (how : Use) → waits_itself here.facts here.modes value how ≡ [] → is_lent_own here.facts how value ≡ false
      bare_alone Owned none = no_own_lent Owned refl
      bare_alone ToPlace none = no_own_lent ToPlace refl
      bare_alone Held none = no_own_lent Held refl
      bare_alone Lent none = lent_none here.facts here.modes value regular none
      bare_alone Looked none = no_own_lent Looked refl

      of_held : (how : Use) → (how ≡ Owned) ⊎ (how ≡ ToPlace) → is_lent how ≡ false
      of_held how (inl e) = ap is_lent e
      of_held how (inr e) = ap is_lent e

      waits_so : gives_hooked here.facts (type_of value) ≡ true → {ms : List Owner} {later : List ℕ} {ty : Option Ty} →
          (a : Leaves here.level nodes (waits_inside here.facts here.modes value) ms later) →
          (one : waits_itself here.facts here.modes value (uses i) ≡
          record { node = (node_of value).number; of = ty; form = form_for here.facts (type_of value) } ∷ []) →
          WaitsThere (form_for here.facts (type_of value)) (node_of value).number v (at_nodes here.level ns) ms os first places later old start now →
          (how : Use) → uses i ≡ how → Goal
      waits_so hooked a one w Owned e =
          absurd (none_is_one (sym (owned_none here.facts here.modes value Owned refl refl refl)
          ∙ (ap (waits_itself here.facts here.modes value) (sym e) ∙ one)))
      waits_so hooked a one w ToPlace e =
          absurd (none_is_one (sym (owned_none here.facts here.modes value ToPlace refl refl refl)
          ∙ (ap (waits_itself here.facts here.modes value) (sym e) ∙ one)))
      waits_so hooked a one w Held e =
          let after = behind_value here value (uses i) d (is_waiting a one w) in
          given (no_own_lent (uses i) (ap is_lent e))
          (last_ready value i {h = empty} after.leaves (stage_wider (ns ++ []) ns (wide_last ns) after.stage)
          (held_ready e hooked first_owner w.base none_ready))
      waits_so hooked a one w Lent e =
          let after = behind_value here value (uses i) d (is_waiting a one w) in
          let own = lent_one here.facts here.modes value (sym (ap (waits_itself here.facts here.modes value) e) ∙ one) in
          subst (λ l. All (ByValue value NoArg) i nodes old start (Evaluated (operand_for l here.level (node_of value).number v) ∷ []) now)
          (sym (ap (λ how. is_lent_own here.facts how value) e ∙ ap₂ (λ m n. m && not n) own.hooks own.text))
          (last_ready value i {h = empty} after.leaves (stage_wider (ns ++ []) ns (wide_last ns) after.stage)
          (lent_ready e hooked own.text first_owner none_ready))
      waits_so hooked a one w Looked e =
          let after = behind_value here value (uses i) d (is_waiting a one w) in
          let seen = waiting_seen w.stage.runs.territory w.base in
          given (no_own_lent (uses i) (ap is_lent e))
          (last_ready value i {h = empty} after.leaves (stage_wider (ns ++ []) ns (wide_last ns) after.stage) (seen_ready e seen.1))

      hooks_so : gives_hooked here.facts (type_of value) ≡ true → HasValue here first places os value (uses i) nodes old start v now → Goal
      hooks_so hooked (is_bare which a none s bare) =
          let after = behind_value here value (uses i) d (is_bare which a none s bare) in
          given (bare_alone (uses i) none)
          (last_ready value i {h = empty} after.leaves (stage_wider (ns ++ []) ns (wide_last ns) after.stage)
          (bare_ready (bare_for here.facts (uses i) value which (bare_alone (uses i) none)) bare none_ready))
      hooks_so hooked (is_seen look a none s seen) =
          let after = behind_value here value (uses i) d (is_seen look a none s seen) in
          given (no_own_lent (uses i) (ap is_lent look))
          (last_ready value i {h = empty} after.leaves (stage_wider (ns ++ []) ns (wide_last ns) after.stage) (seen_ready look seen))
      hooks_so hooked (is_held owner a none held) =
          let after = behind_value here value (uses i) d (is_held owner a none held) in
          given (no_own_lent (uses i) (of_held (uses i) owner))
          (last_ready value i {h = holds (form_for here.facts (type_of value)) v} after.leaves (holding_last ns held) (hand_ready owner hooked))
      hooks_so hooked (is_waiting a one w) = waits_so hooked a one w (uses i) refl

      by : (c : Bool) → gives_hooked here.facts (type_of value) ≡ c → Goal
      by true hooked = hooks_so hooked h
      by false unhooked =
          let after = behind_value here value (uses i) d h in
          given (ap (λ c. c && (is_lent (uses i) && not (is_text value))) unhooked)
          (last_ready value i {h = empty} after.leaves
          (stage_wider (ns ++ []) ns (wide_last ns) (behind_alone here value (uses i) d (λ how. unhooked) h))
          (bare_ready (inl (sym (hooked_is here.facts (type_of value)) ∙ unhooked)) (value_bare here value (uses i) unhooked h) none_ready))

  pub value_last : (value : Expr) (i : ℕ) → gets_copy here (uses i) value ≡ false → Regular here.facts value → Distinct (value_nodes value) →
      ValueSo here scope limits root first places os value (uses i) → ReadySo here scope limits root first places os uses (ByValue value NoArg) i
  value_last value i copy regular d so nodes s b scene =
      let ns = value_nodes value in
      let Q = All (ByValue value NoArg) i nodes b.territory.blocks s.world in
      subst (λ c. Comes Q NoExit (branch c (source value here >>= (λ l. ready_all NoArg uses (suc i) here >>= (λ ready. give (Evaluated (At l) ∷ ready))))
      (eval value (uses i) here >>= (λ v. ready_all NoArg uses (suc i) here >>= (λ ready. give (operand value (uses i) v ∷ ready)))) s)) (sym copy)
      (comes_then (eval value (uses i) here) (λ v. ready_all NoArg uses (suc i) here >>= (λ ready. give (operand value (uses i) v ∷ ready)))
      (HasValue here first places os value (uses i) nodes b.territory.blocks s.world) Q NoExit s
      (so nodes s (begins_part (ns ++ []) ns b (wide_last ns)) scene) (λ v mid h. value_ready value i regular d h))
