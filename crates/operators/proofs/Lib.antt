mod PathLaws
mod StepLaws
