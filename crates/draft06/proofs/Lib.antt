mod ExampleVerdicts
mod ArrayExamples
mod ObjectExamples
mod ScalarExamples
mod InPlaceExamples
