-- What stands before the entries, as the code has it.
use Rattle.dob_certfile.specs.declared.front.Front.{Front}
use Rattle.dob_certfile.specs.Reading.{FrontContent}

abbrev pub front_content : Front → FrontContent
front_content front = record { family = front.family; root = front.root; claim = front.claim; lost_count = front.lost_count; held_count = front.held_count }
