use Rattle.formed_programs.proofs.Tables.{forms_of_table}
use Rattle.formed_programs.proofs.laws.table_forms.Goals as goal

pub returns : goal.returns
returns c = forms_of_table
