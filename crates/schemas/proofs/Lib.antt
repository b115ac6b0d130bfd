pub mod ExampleRules
mod ShapeExamples
mod FaultExamples
mod WalkExamples
mod EntryExamples
mod TableExamples
