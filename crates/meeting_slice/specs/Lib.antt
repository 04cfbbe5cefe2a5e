pub mod NewRows
pub mod Met
