-- `clap` takes the words of each form so: what `proofs/FormWords.antt` asks of a form holds by computing.
use Rattle.dob_words.proofs.Common.{rules, ProfileNames}
use Rattle.dob_words.specs.Forms.{forms}
use Rattle.dob_words.proofs.Texts.{Each}
use Rattle.dob_words.proofs.FormWords.{IsTaken}

pub all_taken : (profiles : ProfileNames) → Each (IsTaken profiles) forms
all_taken profiles = search rules
