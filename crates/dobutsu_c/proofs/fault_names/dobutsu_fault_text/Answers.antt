-- The name is the one that the fault has elsewhere.
use Rattle.dobutsu_c.proofs.Named.{text_name, file_name, defect_name}
use Rattle.dobutsu_c.proofs.fault_names.dobutsu_fault_text.Goals as goal

pub returns-clause-texts : goal.returns-clause-texts
returns-clause-texts c = text_name c.args.fault c.text_of.result (rw c.name_of.ensures.name at c.text_of.ensures)

pub returns-clause-files : goal.returns-clause-files
returns-clause-files c = file_name c.args.fault c.text_of.result (rw c.name_of.ensures.name at c.text_of.ensures)

pub returns-clause-defects : goal.returns-clause-defects
returns-clause-defects c = defect_name c.args.fault c.text_of.result (rw c.name_of.ensures.name at c.text_of.ensures)
