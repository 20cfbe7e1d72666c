-- The tables by which code is laid out. No public contract speaks of them.
use Rattle.std.specs.Prelude.{◌≡◌, ℕ, suc, ◌&&◌, nat_eq, Bool, List, ◌++◌, length, Option, Some, None}
use Rattle.std.specs.List.{slice_get}
use Rattle.std.specs.Option.{option_eq, option_map}
use Rattle.std.specs.HashMap.{HashMap, get}
use Rattle.rv32_isa.specs.declared.label.LabelName.{LabelName}
use Rattle.rv32_isa.specs.declared.label.LabelName.TheVariants.{Entry, Inner}
use Rattle.rv32_isa.specs.declared.label.LabelLine.{LabelLine}
use Rattle.rv32_isa.specs.declared.label.LabelLine.TheVariants.{Label}
use Rattle.rv32_isa.specs.Labels.{from_label}
use Rattle.rv32_codegen.specs.declared.layout_places.Layout.{Layout}
use Rattle.rv32_codegen.specs.Layout.{Far, all_far, size, too_far, code_size}

-- the name of the label that a line is
abbrev pub label_of : LabelLine → Option LabelName
label_of (Label name hook) = Some name
label_of line = None

-- what a name is looked up by
abbrev pub key_of : LabelName → ℕ × Option ℕ
key_of (Entry procedure) = (procedure, None)
key_of (Inner procedure name) = (procedure, Some name)

abbrev pub same_key : ℕ × Option ℕ → ℕ × Option ℕ → Bool
same_key x y = nat_eq x.0 y.0 && option_eq nat_eq x.1 y.1

-- for the name of each label how many lines there are from it on
abbrev pub AreLabels : {S : Type 0} → List LabelLine → HashMap (ℕ × Option ℕ) ℕ S → Type 0
AreLabels code labels = (name : LabelName) → get same_key labels (key_of name) ≡ option_map length (from_label name code)

-- for each number of lines at the end of the code how many bytes they have
pub record AreSizes (far : Far) (code : List LabelLine) (sizes : List ℕ) : Type 0 where
  pub long : length sizes ≡ suc (length code)
  pub there : (before lines : List LabelLine) → code ≡ before ++ lines → slice_get sizes (length lines) ≡ Some (size far lines)

pub record IsLayout (code : List LabelLine) (layout : Layout) : Type 0 where
  pub labels : AreLabels code layout.labels
  pub far : AreSizes all_far code layout.far.items
  pub sizes : AreSizes (too_far code) code layout.sizes.items
  pub total : layout.total ≡ code_size code
