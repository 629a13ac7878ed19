pub mod ModulePaths
pub mod ModuleFiles
