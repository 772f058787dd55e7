pub mod Options
pub mod CommandLine
pub mod PlanFailures
