pub mod Formatters
pub mod ReadErrorViews
pub mod PendingPlans
