-- The exit statuses of faults.
use Rattle.scenario_text.specs.CommonNames.{ℕ, List, codes, Fault}
use Rattle.scenario_text.specs.declared.fault.Fault.TheVariants as fault

-- 3 if reading or memory failed, 1 if the input is refused
abbrev pub fault_status : Fault → ℕ
fault_status fault.Read = 3
fault_status fault.Memory = 3
fault_status f = 1

abbrev pub fault_name : Fault → List ℕ
fault_name fault.Read = codes "Read"
fault_name fault.TooLong = codes "TooLong"
fault_name fault.BadJson = codes "BadJson"
fault_name fault.TooManySteps = codes "TooManySteps"
fault_name (fault.BadShape n) = codes "BadShape"
fault_name (fault.BadUser n) = codes "BadUser"
fault_name (fault.BadName n) = codes "BadName"
fault_name (fault.BadNumber n) = codes "BadNumber"
fault_name (fault.TooManyRules n) = codes "TooManyRules"
fault_name fault.Memory = codes "Memory"
