mod PlainSites
mod RuleOrders
mod Measuring
mod MeasuredParts
mod DeepTables
mod DeepFaults
