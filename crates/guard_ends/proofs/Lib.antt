pub mod RefusedRules
pub mod ReportedVerdicts
