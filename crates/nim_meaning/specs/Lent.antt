-- That a value which is lent to a temporary is read behind, in the same block: so its region ends there.
use Rattle.std.specs.Prelude.{◌≡◌, Bool, true, false, ◌||◌, if◌then◌else◌, Option, Some, None}
use Rattle.nim_meaning.specs.ActTree.{Root, Temporary, Lend, Control, Do, Choose, Loop, Break, Continue, Return, Call, Group, Arms, No_arm, An_arm}
use Rattle.nim_meaning.specs.ActTree.{Acts, Done, Then, Bind, Result, is_read_by}

-- an operation or a call of the block reads a place; those of its parts don't count
abbrev pub reads_later : Root → Acts → Bool
reads_later x Done = false
reads_later x (Then s b) = is_read_by x s || reads_later x b
reads_later x (Bind y l b) = reads_later x b
reads_later x (Result y l b) = reads_later x b

abbrev pub lent_to : Control → Option Root
lent_to (Do n r (Lend site (Temporary m) path)) = Some (Temporary m)
lent_to _ = None

abbrev pub Is_read : Option Root → Acts → Type 0
Is_read None b = Unit {0}
Is_read (Some x) b = reads_later x b ≡ true

abbrev mutual
  pub Lends_read : Control → Type 0
  Lends_read (Do n r a) = Unit {0}
  Lends_read (Choose n r arms) = Arms_read arms
  Lends_read (Loop n c b) = All_read c × All_read b
  Lends_read (Break n) = Unit {0}
  Lends_read (Continue n) = Unit {0}
  Lends_read (Return n) = Unit {0}
  Lends_read (Call n p on) = Unit {0}
  Lends_read (Group n r b) = All_read b

  pub Arms_read : Arms → Type 0
  Arms_read No_arm = Unit {0}
  Arms_read (An_arm a rest) = All_read a × Arms_read rest

  pub All_read : Acts → Type 0
  All_read Done = Unit {0}
  All_read (Then s b) = Is_read (lent_to s) b × (Lends_read s × All_read b)
  All_read (Bind x l b) = All_read b
  All_read (Result x l b) = All_read b

abbrev pub is_done : Acts → Bool
is_done Done = true
is_done (Then s b) = false
is_done (Bind x l b) = false
is_done (Result x l b) = false

-- a block ends with what reads a place, and nothing before this does
abbrev pub ends_reading : Root → Acts → Bool
ends_reading x Done = false
ends_reading x (Then s b) = if is_read_by x s then is_done b else ends_reading x b
ends_reading x (Bind y l b) = ends_reading x b
ends_reading x (Result y l b) = ends_reading x b
