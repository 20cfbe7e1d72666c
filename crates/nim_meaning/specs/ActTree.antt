-- What a body does to places, in order: a tree of control over acts. How values are computed is no part of it.
use Rattle.std.specs.Prelude.{ℕ, ℤ, Bool, true, false, not, ◌&&◌, ◌||◌, if◌then◌else◌, nat_eq, List, [], ◌∷◌, Option, Some, None}
use Rattle.std.specs.Ordering.{int_eq}

-- ---- paths

-- where a path begins: a declared place, the temporary that holds the value of an expression, or a literal, which is always there
pub data Root : Type 0 where
  Named : (place : ℕ) → Root
  Temporary : (node : ℕ) → Root
  Literal : (node : ℕ) → Root

-- a field or a part, or an element by its index, where that is a constant
pub data Step : Type 0 where
  Field : (number : ℕ) → Step
  Index : (constant : Option ℤ) → Step

pub record Path : Type 0 where
  pub root : Root
  pub steps : List Step

abbrev pub same_root : Root → Root → Bool
same_root (Named x) (Named y) = nat_eq x y
same_root (Temporary m) (Temporary n) = nat_eq m n
same_root (Named x) (Temporary n) = false
same_root (Named x) (Literal n) = false
same_root (Temporary m) (Named y) = false
same_root (Temporary m) (Literal n) = false
same_root (Literal m) (Literal n) = nat_eq m n
same_root (Literal m) (Named y) = false
same_root (Literal m) (Temporary n) = false

-- the same step, whatever the indexes are
abbrev pub same_step : Step → Step → Bool
same_step (Field m) (Field n) = nat_eq m n
same_step (Index (Some i)) (Index (Some j)) = int_eq i j
same_step (Index (Some i)) (Index None) = false
same_step (Index None) (Index j) = false
same_step (Field m) (Index i) = false
same_step (Index i) (Field m) = false

-- one step, for some values of the indexes
abbrev pub may_be_same : Step → Step → Bool
may_be_same (Field m) (Field n) = nat_eq m n
may_be_same (Index (Some i)) (Index (Some j)) = int_eq i j
may_be_same (Index (Some i)) (Index None) = true
may_be_same (Index None) (Index j) = true
may_be_same (Field m) (Index i) = false
may_be_same (Index i) (Field m) = false

-- the second begins with the first
abbrev pub steps_begin : List Step → List Step → Bool
steps_begin [] ts = true
steps_begin (s ∷ ss) [] = false
steps_begin (s ∷ ss) (t ∷ ts) = same_step s t && steps_begin ss ts

abbrev pub steps_overlap : List Step → List Step → Bool
steps_overlap [] ts = true
steps_overlap (s ∷ ss) [] = true
steps_overlap (s ∷ ss) (t ∷ ts) = may_be_same s t && steps_overlap ss ts

-- z begins y: what stands at y is a part of what stands at z, or all of it
abbrev pub begins : Path → Path → Bool
begins z y = same_root z.root y.root && steps_begin z.steps y.steps

-- a part may be common to both
abbrev pub overlaps : Path → Path → Bool
overlaps z y = same_root z.root y.root && steps_overlap z.steps y.steps

abbrev pub same_path : Path → Path → Bool
same_path z y = begins z y && begins y z

abbrev pub any_overlaps : List Path → Path → Bool
any_overlaps [] y = false
any_overlaps (z ∷ zs) y = overlaps z y || any_overlaps zs y

abbrev pub whole : Root → Path
whole root = record { root = root; steps = [] }

abbrev pub wholes : List Root → List Path
wholes [] = []
wholes (x ∷ xs) = whole x ∷ wholes xs

-- ---- acts

-- How control leaves a part: it goes on, or leaves by the `break`, `continue` or `return` of a node.
pub data Flow : Type 0 where
  On : Flow
  Out : (node : ℕ) → Flow
  Turn_over : (node : ℕ) → Flow
  Back : (node : ℕ) → Flow

-- What an operation or a call works on, all after its last operand was evaluated: paths that it looks up, reads and writes
-- (`var` arguments, and those of `swap`, `add` and the like), temporaries that it reads, and temporaries that it takes.
pub record Operands : Type 0 where
  pub alters : List Path
  pub reads : List Root
  pub takes : List Root

-- Look reads in place. Take hands a value on at a consuming site, and names the whole place that gets it, if one does at once.
-- Lend gives a place a borrowed value or a copy, as the plan says of its reading site; without a site the value is borrowed.
-- Fill fills a new place, and Give assigns. Exit leaves the scope of a place by an exit, which has the number of a node; what the
-- place still holds ends there. Hand gives the result to the caller.
pub data Act : Type 0 where
  Pass : Act
  Look : (path : Path) → Act
  Take : (site : ℕ) (to : Option Root) (path : Path) → Act
  Lend : (site : Option ℕ) (place : Root) (path : Path) → Act
  Fill : (place : Root) → Act
  Give : (path : Path) → Act
  Operate : (on : Operands) → Act
  Invoke : (proc : ℕ) (on : Operands) → Act
  Exit : (place : Root) (exit : ℕ) (by : Flow) → Act
  Hand : (place : Root) → Act

-- ---- what an act reads and writes

-- z is a proper part of y
abbrev pub is_part : Path → Path → Bool
is_part z y = begins y z && not (begins z y)

-- the paths that an operation works on
abbrev pub worked_on : Operands → Path → Bool
worked_on on y = any_overlaps on.alters y || (any_overlaps (wholes on.reads) y || any_overlaps (wholes on.takes) y)

-- y is written as a whole
abbrev pub writes : Act → Path → Bool
writes Pass y = false
writes (Look z) y = false
writes (Take s x z) y = false
writes (Lend s x z) y = begins (whole x) y
writes (Fill x) y = begins (whole x) y
writes (Give z) y = begins z y
writes (Operate on) y = false
writes (Invoke c on) y = false
writes (Exit x e f) y = false
writes (Hand x) y = false

-- y, or a path that overlaps it, is read, before anything is written. A write to a proper part of y is such a read.
abbrev pub reads : Act → Path → Bool
reads Pass y = false
reads (Look z) y = overlaps z y
reads (Take s x z) y = overlaps z y
reads (Lend s x z) y = overlaps z y
reads (Fill x) y = false
reads (Give z) y = is_part z y
reads (Operate on) y = worked_on on y
reads (Invoke c on) y = worked_on on y
reads (Exit x e f) y = false
reads (Hand x) y = overlaps (whole x) y

-- ---- control

-- What a node's point is for: it begins, with what is inside it; it does what it is named for; it fills a place; it looks a path up
-- before a loop; it chooses among branches; a turn of its loop begins; it is a condition that begins, or that decides; control
-- leaves by it.
pub data Role : Type 0 where
  Begins : Role
  Does : Role
  Fills : Role
  Looks : Role
  Chooses : Role
  Turns : Role
  Asks : Role
  Decides : Role
  Leaves : Role

mutual
  -- one act; one of several branches; a loop, whose condition is a part of it; `break`, `continue` and `return`; a call; a part with
  -- scopes of its own
  pub data Control : Type 0 where
    Do : (node : ℕ) (role : Role) (act : Act) → Control
    Choose : (node : ℕ) (role : Role) (arms : Arms) → Control
    Loop : (node : ℕ) (condition body : Acts) → Control
    Break : (node : ℕ) → Control
    Continue : (node : ℕ) → Control
    Return : (node : ℕ) → Control
    Call : (node proc : ℕ) (on : Operands) → Control
    Group : (node : ℕ) (role : Role) (part : Acts) → Control

  pub data Arms : Type 0 where
    No_arm : Arms
    An_arm : (arm : Acts) (rest : Arms) → Arms

  -- Bind is the scope of a place around the rest, left by Exit however the rest is left. Result is that of a procedure's result: it is
  -- filled first, and handed over where the procedure returns. `last` names the exit where the rest goes on to its end.
  pub data Acts : Type 0 where
    Done : Acts
    Then : (first : Control) (rest : Acts) → Acts
    Bind : (place : Root) (last : ℕ) (rest : Acts) → Acts
    Result : (place : Root) (last : ℕ) (rest : Acts) → Acts

-- the number of the exit by which a scope is left
abbrev pub exit_number : ℕ → Flow → ℕ
exit_number last On = last
exit_number last (Out e) = e
exit_number last (Turn_over e) = e
exit_number last (Back e) = e

-- how the scope of a place is left, and that of a result
abbrev pub leaving : Root → ℕ → Flow → Act
leaving x last f = Exit x (exit_number last f) f

abbrev pub closing : Root → ℕ → Flow → Act
closing x last On = Hand x
closing x last (Out e) = leaving x last (Out e)
closing x last (Turn_over e) = leaving x last (Turn_over e)
closing x last (Back e) = Hand x

abbrev pub goes_on : Flow → Bool
goes_on On = true
goes_on (Out e) = false
goes_on (Turn_over e) = false
goes_on (Back e) = false

-- ---- the region of a lent argument

abbrev pub is_among : Root → List Root → Bool
is_among x [] = false
is_among x (y ∷ ys) = same_root y x || is_among x ys

abbrev pub reads_of : Act → List Root
reads_of (Operate on) = on.reads
reads_of (Invoke proc on) = on.reads
reads_of _ = []

abbrev pub is_read_by : Root → Control → Bool
is_read_by x (Do node role act) = is_among x (reads_of act)
is_read_by x (Call node proc on) = is_among x on.reads
is_read_by x _ = false

-- What follows where a value is lent to a temporary, up to the operation or call that reads the temporary, with this one. Behind it the
-- lent value may be written, though the temporary stays to the end of its statement. What reads an operand stands in no branch and no
-- group behind it.
abbrev pub until_read : Root → Acts → Acts
until_read x Done = Done
until_read x (Then first rest) = Then first (if is_read_by x first then Done else until_read x rest)
until_read x (Bind place last rest) = Bind place last (until_read x rest)
until_read x (Result place last rest) = Result place last (until_read x rest)
