mod BesideTables
mod RuleTables
