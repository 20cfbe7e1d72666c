-- Each value that is lent to a temporary is read behind: expressions.
use Rattle.std.proofs.Common.{◌≡◌, refl, sym, subst, ◌∙◌, inl, inr, ⊎_elim, ◌⊎◌, ℕ, suc, Bool, true, false, ◌&&◌, if◌then◌else◌, nat_eq, List, [], ◌∷◌}
use Rattle.std.proofs.Common.{Option, Some, None}
use Rattle.std.proofs.lemmas.Bool.{false≢true, eq-eqb, or_left, or_right}
use Rattle.nim_types.specs.Types.{Ty}
use Rattle.nim_program.specs.declared.operation.Operation.{Operation}
use Rattle.nim_program.specs.declared.operation.Operation.TheVariants as O
use Rattle.nim_program.specs.declared.operation.Short.{Short}
use Rattle.nim_program.specs.declared.operation.Short.TheVariants.{And, Or}
use Rattle.nim_program.specs.declared.operation.Use.{Use}
use Rattle.nim_program.specs.declared.operation.Use.TheVariants.{Owned, Given, Held, Lent, Looked}
use Rattle.nim_program.specs.declared.program.Mode.{Mode}
use Rattle.nim_program.specs.Program as T
use Rattle.nim_program.specs.Program.{Label, Expr, Args, type_of, node_of, constant_in}
use Rattle.nim_program.specs.Folds.{by_constant}
use Rattle.nim_program.specs.Uses.{use_by, use_of}
use Rattle.nim_meaning.specs.ActTree.{Root, Temporary, same_root, Path, Operands, Does, Chooses, Operate, is_among, is_read_by}
use Rattle.nim_meaning.specs.ActTree.{Control, Do, Choose, Group, Arms, No_arm, Acts, Done, Then}
use Rattle.nim_meaning.specs.Shapes.{is_covered, is_last_value, is_held, waits, waits_from, is_text}
use Rattle.nim_meaning.specs.ActsOf.{temporary, one_act, used, read_act, bound, ended, early_arms, act_by, done_by}
use Rattle.nim_meaning.specs.ActsOf.{receiver, looked_at, is_hooked, with_value, works_on, read_acts, acts_of, aimed, ready_acts, first_acts, selected_acts}
use Rattle.nim_meaning.specs.ActsOf.{value_arms}
use Rattle.nim_meaning.specs.ActsOf.{all_made, reading, taking}
use Rattle.nim_meaning.specs.Lent.{reads_later, lent_to, Is_read, Lends_read, Arms_read, All_read}

abbrev pub Reads : Root → Acts → Type 0
Reads x b = reads_later x b ≡ true

-- ---- what an operation does

lends_none : (operation : Operation) (operands : Args) (on : Operands) (n : ℕ) → lent_to (Do n Does (act_by operation operands on)) ≡ None
lends_none O.Assign (T.ByPath path rest) on n = refl
lends_none (O.Measure measure) (T.ByPath path rest) on n = refl
lends_none _ operands on n = refl

abbrev is_lent : Use → Bool
is_lent Owned = false
is_lent Given = false
is_lent Held = false
is_lent Lent = true
is_lent Looked = false

-- what its operands are lent to reads them
lent_operates : (operation : Operation) (operands : Args) (on : Operands) → is_lent (use_by operation) ≡ true → act_by operation operands on ≡ Operate on
lent_operates O.Assign (T.ByPath path rest) on h = absurd (false≢true h)
lent_operates (O.Measure measure) (T.ByPath path rest) on h = absurd (false≢true h)
lent_operates _ operands on h = refl

-- ---- parts that keep what is read behind them, and in which all that is lent is read

pub record Free (F : Acts → Acts) : Type 0 where
  pub later : (x : Root) (b : Acts) → Reads x b → Reads x (F b)
  pub good : (b : Acts) → All_read b → All_read (F b)

pub free_none : Free (λ r. r)
free_none = record { later = λ x b h. h; good = λ b h. h }

pub free_then : {F G : Acts → Acts} → Free F → Free G → Free (λ r. F (G r))
free_then {F} {G} f g = record { later = λ x b h. f.later x (G b) (g.later x b h); good = λ b h. f.good (G b) (g.good b h) }

-- one that lends nothing itself
pub free_control : (s : Control) → lent_to s ≡ None → Lends_read s → Free (λ b. Then s b)
free_control s e h = record {
  later = λ x b r. or_right (is_read_by x s) (reads_later x b) r;
  good = λ b r. (subst (λ o. Is_read o b) (sym e) tt, (h, r));
}

pub free_used : (waits : Bool) (n : ℕ) → Free (used waits n)
free_used true n = free_control _ refl tt
free_used false n = free_none

bound_read : (ns : List ℕ) (b : Acts) → All_read b → All_read (bound ns b)
bound_read [] b h = h
bound_read (n ∷ ns) b h = bound_read ns b h

pub ended_read : (b : Acts) → All_read b → All_read (ended b)
ended_read b h = bound_read (all_made b) b h

pub free_group : (n : ℕ) (r : _) (b : Acts) → All_read b → Free (λ rest. Then (Group n r b) rest)
free_group n r b h = free_control (Group n r b) refl h

pub free_choice : (n : ℕ) (r : _) (arms : Arms) → Arms_read arms → Free (λ rest. Then (Choose n r arms) rest)
free_choice n r arms h = free_control (Choose n r arms) refl h

pub arms_if : (last : Bool) (arms : Arms) → Arms_read arms → Arms_read (if last then No_arm else arms)
arms_if true arms h = tt
arms_if false arms h = h

free_done : (n : ℕ) (a : T.Act) (operands : Args) (on : Operands) → Free (λ b. Then (done_by n a operands on) b)
free_done n (T.Doing operation) operands on = free_control _ (lends_none operation operands on n) tt
free_done n (T.Building fields) operands on = free_control _ refl tt
free_done n (T.Giving literal) operands on = free_control _ refl tt
free_done n (T.Calling proc types) operands on = free_control _ refl tt

pub free_looked : (path : T.Path) → Free (looked_at path)
free_looked (T.Variable node ty place global) = free_control _ refl tt
free_looked (T.Fresh value) = free_none
free_looked (T.Field node ty base field) = free_control _ refl tt
free_looked (T.Element node ty base index constant) = free_control _ refl tt
free_looked (T.Deref ty base) = free_none

early_read : (short : Short) (b : Acts) → All_read b → Arms_read (early_arms short b)
early_read And b h = (h, (tt, tt))
early_read Or b h = (tt, (h, tt))

-- ---- roots among others

self_root : (n : ℕ) (xs : List Root) → is_among (Temporary n) (Temporary n ∷ xs) ≡ true
self_root n xs = or_left (nat_eq n n) (is_among (Temporary n) xs) (eq-eqb n n refl)

module _ (hooked : Ty → Bool) (at_call : ℕ → ℕ → Mode) where
  -- where a value is lent, what follows reads its temporary
  abbrev pub Needs : Use → Expr → Acts → Type 0
  Needs how e b = is_lent how ≡ true → is_hooked hooked at_call (type_of e) ≡ true → is_text e ≡ false → Reads (temporary e) b

  pub record Value (how : Use) (e : Expr) (F : Acts → Acts) : Type 0 where
    pub later : (x : Root) (b : Acts) → Reads x b → Reads x (F b)
    pub good : (b : Acts) → Needs how e b → All_read b → All_read (F b)

  pub free_value : {F : Acts → Acts} (how : Use) (e : Expr) → Free F → Value how e F
  free_value how e f = record { later = f.later; good = λ b g h. f.good b h }

  -- a value that isn't lent
  pub value_free : {F : Acts → Acts} (how : Use) (e : Expr) → is_lent how ≡ false → Value how e F → Free F
  value_free how e n f = record { later = f.later; good = λ b h. f.good b (λ l k i. absurd (false≢true (sym n ∙ l))) h }

  -- a path that is read, at a node of its own
  abbrev Reading : Bool → Use → Option Root → ℕ → Path → Acts → Acts
  Reading hook how to n path r = one_act n Does (read_act hook how to n path) (used (hook && is_held how) n r)

  read_later : (x : Root) (hook : Bool) (how : Use) (to : Option Root) (n : ℕ) (path : Path) (b : Acts) → Reads x b → Reads x (Reading hook how to n path b)
  read_later x hook how to n path b h =
      or_right (is_read_by x (Do n Does (read_act hook how to n path))) (reads_later x (used (hook && is_held how) n b))
      (Free.later (free_used (hook && is_held how) n) x b h)

  read_good : (hook : Bool) (how : Use) (to : Option Root) (n : ℕ) (path : Path) (b : Acts) →
      (is_lent how ≡ true → hook ≡ true → Reads (Temporary n) b) → All_read b → All_read (Reading hook how to n path b)
  read_good false how to n path b g h = (tt, (tt, h))
  read_good true Owned to n path b g h = (tt, (tt, h))
  read_good true Given to n path b g h = (tt, (tt, h))
  read_good true Held to n path b g h = (tt, (tt, (tt, (tt, h))))
  read_good true Lent to n path b g h = (g refl refl, (tt, h))
  read_good true Looked to n path b g h = (tt, (tt, h))

  value_read : (path : T.Path) (how : Use) (to : Option Root) → Value how (T.Read path) (read_acts hooked at_call how to path)
  value_read (T.Variable node ty place global) how to = record {
    later = λ x b h. read_later x (hooked ty) how to node.number _ b h;
    good = λ b g h. read_good (hooked ty) how to node.number _ b (λ l k. g l k refl) h;
  }
  value_read (T.Fresh value) how to = free_value how (T.Read (T.Fresh value)) free_none
  value_read (T.Field node ty base field) how to = record {
    later = λ x b h. read_later x (hooked ty) how to node.number _ b h;
    good = λ b g h. read_good (hooked ty) how to node.number _ b (λ l k. g l k refl) h;
  }
  value_read (T.Element node ty base index constant) how to = record {
    later = λ x b h. read_later x (hooked ty) how to node.number _ b h;
    good = λ b g h. read_good (hooked ty) how to node.number _ b (λ l k. g l k refl) h;
  }
  value_read (T.Deref ty base) how to = free_value how (T.Read (T.Deref ty base)) free_none

  pub behind_free : {F G : Acts → Acts} (how : Use) (e : Expr) → Free F → Value how e G → Value how e (λ r. F (G r))
  behind_free {F} {G} how e f g = record { later = λ x b h. f.later x (G b) (g.later x b h); good = λ b n h. f.good (G b) (g.good b n h) }

  -- ---- operands

  abbrev Needs_args : (ℕ → Use) → ℕ → Args → Acts → Type 0
  Needs_args uses i T.NoArg b = Unit {0}
  Needs_args uses i (T.ByValue value rest) b = Needs (uses i) value b × Needs_args uses (suc i) rest b
  Needs_args uses i (T.ByPath path rest) b = Needs_args uses (suc i) rest b

  pub none_lent : (uses : ℕ → Use) (i : ℕ) (args : Args) (b : Acts) → ((i : ℕ) → is_lent (uses i) ≡ false) → Needs_args uses i args b
  none_lent uses i T.NoArg b h = tt
  none_lent uses i (T.ByValue value rest) b h = ((λ l k n. absurd (false≢true (sym (h i) ∙ l))), none_lent uses (suc i) rest b h)
  none_lent uses i (T.ByPath path rest) b h = none_lent uses (suc i) rest b h

  -- its temporary, and those of the operands behind it, are among those that are read
  its_own : (how : Use) (e : Expr) (on : Operands) → is_lent how ≡ true → is_hooked hooked at_call (type_of e) ≡ true → is_text e ≡ false →
      is_among (temporary e) (with_value hooked at_call how e on).reads ≡ true
  its_own Owned e on l h n = absurd (false≢true l)
  its_own Given e on l h n = absurd (false≢true l)
  its_own Held e on l h n = absurd (false≢true l)
  its_own Looked e on l h n = absurd (false≢true l)
  its_own Lent e on l h n =
      subst (λ c. is_among (temporary e) (if c then on else if is_hooked hooked at_call (type_of e) then reading (temporary e) on else on).reads ≡ true) (sym n)
      (subst (λ c. is_among (temporary e) (if c then reading (temporary e) on else on).reads ≡ true) (sym h) (self_root (node_of e).number on.reads))

  more_read : (x : Root) (e : Expr) (on : Operands) (literal hook : Bool) → is_among x on.reads ≡ true →
      is_among x (if literal then on else if hook then reading (temporary e) on else on).reads ≡ true
  more_read x e on true hook h = h
  more_read x e on false true h = or_right (same_root (temporary e) x) (is_among x on.reads) h
  more_read x e on false false h = h

  more_held : (x : Root) (e : Expr) (on : Operands) (hook : Bool) → is_among x on.reads ≡ true →
      is_among x (if hook then taking (temporary e) on else on).reads ≡ true
  more_held x e on true h = h
  more_held x e on false h = h

  others_too : (how : Use) (e : Expr) (on : Operands) (x : Root) → is_among x on.reads ≡ true → is_among x (with_value hooked at_call how e on).reads ≡ true
  others_too Owned e on x h = h
  others_too Given e on x h = h
  others_too Held e on x h = more_held x e on (is_hooked hooked at_call (type_of e)) h
  others_too Lent e on x h = more_read x e on (is_text e) (is_hooked hooked at_call (type_of e)) h
  others_too Looked e on x h = h

  all_read : (act : T.Act) (i : ℕ) (args : Args) (b : Acts) → ((x : Root) → is_among x (works_on hooked at_call act i args).reads ≡ true → Reads x b) →
      Needs_args (use_of at_call act) i args b
  all_read act i T.NoArg b f = tt
  all_read act i (T.ByValue value rest) b f = (
    (λ l k n. f (temporary value) (its_own (use_of at_call act i) value (works_on hooked at_call act (suc i) rest) l k n)),
    all_read act (suc i) rest b (λ x h. f x (others_too (use_of at_call act i) value (works_on hooked at_call act (suc i) rest) x h)),
  )
  all_read act i (T.ByPath path rest) b f = all_read act (suc i) rest b f

  -- what an operation's operands need, it does
  either_lent : (b : Bool) → (b ≡ true) ⊎ (b ≡ false)
  either_lent true = inl refl
  either_lent false = inr refl

  operates : (n : ℕ) (operation : Operation) (operands : Args) (rest : Acts) (on : Operands) (x : Root) → is_lent (use_by operation) ≡ true →
      is_among x on.reads ≡ true → Reads x (Then (Do n Does (act_by operation operands on)) rest)
  operates n operation operands rest on x l h =
      subst (λ a. Reads x (Then (Do n Does a) rest)) (sym (lent_operates operation operands on l)) (or_left (is_among x on.reads) (reads_later x rest) h)

  pub does_read : (n : ℕ) (act : T.Act) (operands : Args) (rest : Acts) →
      Needs_args (use_of at_call act) 0 operands (Then (done_by n act operands (works_on hooked at_call act 0 operands)) rest)
  does_read n (T.Doing operation) operands rest =
      let on : Operands = works_on hooked at_call (T.Doing operation) 0 operands in
      ⊎_elim
      (λ l. all_read (T.Doing operation) 0 operands (Then (Do n Does (act_by operation operands on)) rest) (λ x h. operates n operation operands rest on x l h))
      (λ l. none_lent (use_of at_call (T.Doing operation)) 0 operands (Then (Do n Does (act_by operation operands on)) rest) (λ i. l))
      (either_lent (is_lent (use_by operation)))
  does_read n (T.Building fields) operands rest = none_lent (use_of at_call (T.Building fields)) 0 operands _ (λ i. refl)
  does_read n (T.Giving literal) operands rest = none_lent (use_of at_call (T.Giving literal)) 0 operands _ (λ i. refl)
  does_read n (T.Calling proc types) operands rest =
      all_read (T.Calling proc types) 0 operands _
      (λ x h. or_left (is_among x (works_on hooked at_call (T.Calling proc types) 0 operands).reads) (reads_later x rest) h)

  -- ---- expressions

  -- operands, each of which needs what it does
  record Operands_free (uses : ℕ → Use) (i : ℕ) (args : Args) (F : Acts → Acts) : Type 0 where
    later : (x : Root) (b : Acts) → Reads x b → Reads x (F b)
    good : (b : Acts) → Needs_args uses i args b → All_read b → All_read (F b)

  by_value : {F G : Acts → Acts} (uses : ℕ → Use) (i : ℕ) (e : Expr) (rest : Args) → Value (uses i) e F → Operands_free uses (suc i) rest G →
      Operands_free uses i (T.ByValue e rest) (λ r. F (G r))
  by_value {F} {G} uses i e rest f g = record {
    later = λ x b h. f.later x (G b) (g.later x b h);
    good = λ b n h. f.good (G b) (λ l k m. g.later (temporary e) b (n.0 l k m)) (g.good b n.1 h);
  }

  by_path : {F G : Acts → Acts} (uses : ℕ → Use) (i : ℕ) (path : T.Path) (rest : Args) → Free F → Operands_free uses (suc i) rest G →
      Operands_free uses i (T.ByPath path rest) (λ r. F (G r))
  by_path {F} {G} uses i path rest f g = record {
    later = λ x b h. f.later x (G b) (g.later x b h);
    good = λ b n h. f.good (G b) (g.good b n h);
  }

  -- operands that are read behind the last one
  operands_done : {F : Acts → Acts} (n : ℕ) (act : T.Act) (operands : Args) (waits : Bool) → Operands_free (use_of at_call act) 0 operands F →
      Free (λ r. F (Then (done_by n act operands (works_on hooked at_call act 0 operands)) (used waits n r)))
  operands_done {F} n act operands waits f =
      let on : Operands = works_on hooked at_call act 0 operands in
      let after : Free (λ r. Then (done_by n act operands on) (used waits n r)) = free_then (free_done n act operands on) (free_used waits n) in
      record {
        later = λ x b h. f.later x (Then (done_by n act operands on) (used waits n b)) (after.later x b h);
        good = λ b h. f.good (Then (done_by n act operands on) (used waits n b)) (does_read n act operands (used waits n b)) (after.good b h);
      }

  -- operands none of which is lent
  operands_free : {F : Acts → Acts} (uses : ℕ → Use) (i : ℕ) (args : Args) → ((i : ℕ) → is_lent (uses i) ≡ false) → Operands_free uses i args F → Free F
  operands_free uses i args n f = record { later = f.later; good = λ b h. f.good b (none_lent uses i args b n) h }

  -- alone, or before something, with its temporaries
  pub before_read : {F : Acts → Acts} → Free F → (b : Acts) → All_read b → All_read (ended (F b))
  before_read {F} f b h = ended_read (F b) (f.good b h)

  pub whole_read : {F : Acts → Acts} → Free F → All_read (ended (F Done))
  whole_read {F} f = ended_read (F Done) (f.good Done tt)

  abbrev owned : {F : Acts → Acts} (e : Expr) → Value Owned e F → Free F
  owned e f = value_free Owned e refl f

  abbrev looked : {F : Acts → Acts} (e : Expr) → Value Looked e F → Free F
  looked e f = value_free Looked e refl f

  unless_constant : {F : Acts → Acts} (c : Option T.Literal) → Free F → Free (λ r. by_constant c (λ literal. r) (F r))
  unless_constant None f = f
  unless_constant (Some literal) f = free_none

  mutual
    pub value_lent : (how : Use) (to : Option Root) (e : Expr) → Value how e (acts_of hooked at_call how to e)
    value_lent how to (T.Apply node ty act operands) =
        free_value how (T.Apply node ty act operands)
        (operands_done node.number act operands (is_hooked hooked at_call ty && waits_from act how)
        (ready_lent (use_of at_call act) 0 (receiver operands) operands))
    value_lent how to (T.Read path) = behind_free how (T.Read path) (aimed_free path) (value_read path how to)
    value_lent how to (T.Early node ty short left right) =
        let b : Acts = acts_of hooked at_call Owned None right Done in
        free_value how (T.Early node ty short left right)
        (free_then (owned left (value_lent Owned None left))
        (free_choice node.number Chooses (early_arms short b) (early_read short b (Free.good (owned right (value_lent Owned None right)) Done tt))))
    value_lent how to (T.Choose node ty T.ByConditions parts) =
        free_value how (T.Choose node ty T.ByConditions parts)
        (free_then (free_group node.number Chooses (first_acts hooked at_call parts) (first_read parts))
        (free_used (is_hooked hooked at_call ty && waits how) node.number))
    value_lent how to (T.Choose node ty (T.ByLabels labels) parts) =
        free_value how (T.Choose node ty (T.ByLabels labels) parts)
        (free_then (selected_free node.number labels parts) (free_used (is_hooked hooked at_call ty && waits how) node.number))

    pub aimed_free : (path : T.Path) → Free (aimed hooked at_call path)
    aimed_free (T.Variable node ty place global) = free_none
    aimed_free (T.Fresh value) = unless_constant (constant_in value) (looked value (value_lent Looked None value))
    aimed_free (T.Field node ty base field) = aimed_free base
    aimed_free (T.Element node ty base index constant) = free_then (aimed_free base) (owned index (value_lent Owned None index))
    aimed_free (T.Deref ty base) = aimed_free base

    ready_lent : (uses : ℕ → Use) (i : ℕ) (to : Option Root) (args : Args) → Operands_free uses i args (ready_acts hooked at_call uses i to args)
    ready_lent uses i to T.NoArg = record { later = λ x b h. h; good = λ b n h. h }
    ready_lent uses i to (T.ByValue value rest) = by_value uses i value rest (value_lent (uses i) to value) (ready_lent uses (suc i) to rest)
    ready_lent uses i to (T.ByPath path rest) = by_path uses i path rest (aimed_free path) (ready_lent uses (suc i) to rest)

    first_read : (parts : Args) → All_read (first_acts hooked at_call parts)
    first_read T.NoArg = tt
    first_read (T.ByPath path rest) = tt
    first_read (T.ByValue last T.NoArg) = whole_read (owned last (value_lent Owned None last))
    first_read (T.ByValue condition (T.ByPath path rest)) = tt
    first_read (T.ByValue condition (T.ByValue value rest)) = (
      tt,
      (
        whole_read (owned condition (value_lent Owned None condition)),
        (tt, ((whole_read (owned value (value_lent Owned None value)), (first_read rest, tt)), tt)),
      ),
    )

    selected_free : (n : ℕ) (labels : List (List Label)) (parts : Args) → Free (selected_acts hooked at_call n labels parts)
    selected_free n labels T.NoArg = free_none
    selected_free n labels (T.ByValue selector values) =
        free_then (looked selector (value_lent Looked None selector))
        (free_choice n Chooses (value_arms hooked at_call (is_covered (type_of selector)) labels values)
        (arms_read (is_covered (type_of selector)) labels values))
    selected_free n labels (T.ByPath path values) =
        free_then (aimed_free path) (free_then (free_looked path)
        (free_choice n Chooses (value_arms hooked at_call (is_covered (T.type_at path)) labels values)
        (arms_read (is_covered (T.type_at path)) labels values)))

    arms_read : (covered : Bool) (labels : List (List Label)) (values : Args) → Arms_read (value_arms hooked at_call covered labels values)
    arms_read covered labels T.NoArg = (tt, tt)
    arms_read covered labels (T.ByPath path rest) = (tt, tt)
    arms_read covered [] (T.ByValue value rest) = (whole_read (owned value (value_lent Owned None value)), tt)
    arms_read covered (these ∷ labels) (T.ByValue value rest) =
        (whole_read (owned value (value_lent Owned None value)), arms_if (covered && is_last_value rest) _ (arms_read covered labels rest))

  -- what the head of a loop is evaluated to
  pub head_free : (head : Args) → Free (ready_acts hooked at_call (λ i. Owned) 0 None head)
  head_free head = operands_free (λ i. Owned) 0 head (λ i. refl) (ready_lent (λ i. Owned) 0 None head)

  pub value_owned : (e : Expr) → Free (acts_of hooked at_call Owned None e)
  value_owned e = owned e (value_lent Owned None e)

  pub value_looked : (e : Expr) → Free (acts_of hooked at_call Looked None e)
  value_looked e = looked e (value_lent Looked None e)

  pub value_given : (to : Option Root) (e : Expr) → Free (acts_of hooked at_call Given to e)
  value_given to e = value_free Given e refl (value_lent Given to e)
